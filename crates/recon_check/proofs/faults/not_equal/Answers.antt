use Rattle.std.proofs.Common.{◌∙◌, sym}
use Rattle.certificate.specs.Certificates.{claim_of}
use Rattle.recon_check.proofs.CellFaults.{cost_is, value_is}
use Rattle.recon_check.proofs.faults.not_equal.Goals as goal

pub returns-then-value-cost-clause-none : goal.returns-then-value-cost-clause-none
returns-then-value-cost-clause-none c = λ s complex over before. record {
  there = before.there;
  admissible = before.admissible;
  valid = before.valid;
  equal =
      sym (c.value-value.ensures.sum ∙ value_is s complex c.args.net.now (claim_of c.args.cert.now) c.args.stated.now over)
      ∙ c.if-value-cost.true ∙ c.cost-cost.ensures.sum
      ∙ cost_is s complex c.args.net.now (claim_of c.args.cert.now) c.args.stated.now over;
}

pub returns-clause-some : goal.returns-clause-some
returns-clause-some c = λ scan s complex mesh over before. (
  before.there,
  before.admissible,
  before.valid,
  c.value-value.ensures.sum ∙ value_is s complex c.args.net.now (claim_of c.args.cert.now) c.args.stated.now over,
  c.cost-cost.ensures.sum ∙ cost_is s complex c.args.net.now (claim_of c.args.cert.now) c.args.stated.now over,
  c.if-value-cost.false,
)
