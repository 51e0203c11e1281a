use Rattle.std.proofs.Common.{◌∙◌, ap, sym, length, subst, Option, IfSome, IfNone}
use Rattle.certificate.specs.Certificates.{claim_of}
use Rattle.flow_net.specs.Firsts.{NoneBelow}
use Rattle.flow_net.specs.Faults.{total_out}
use Rattle.flow_net.specs.Networks.{amount_in}
use Rattle.solution.specs.Solutions.{flow_on, sink_at}
use Rattle.visibility.specs.Cuts.{network_over}
use Rattle.recon_check.specs.ByRows.{IsLeastUnbalance, IsUnbalanced}
use Rattle.recon_check.specs.declared.balance.Unbalance.{Unbalance}
use Rattle.recon_check.proofs.CellFaults.{admissible_from, first_unbalanced, in_is, out_is, valid_from}
use Rattle.recon_check.proofs.faults.show_balanced.Goals as goal

pub returns-in-Some-clause-fault : goal.returns-in-Some-clause-fault
returns-in-Some-clause-fault c = λ scan s complex mesh over before.
    let h : IsLeastUnbalance c.args.net.now c.args.stated.now.flow c.in-Some.found =
    subst (λ (o : Option Unbalance). IfSome o (IsLeastUnbalance c.args.net.now c.args.stated.now.flow)) c.in-Some.is
    c.in_ok-found.ensures.first in (
      before,
      first_unbalanced s complex c.args.net.now (claim_of c.args.cert.now) c.args.stated.now over c.in-Some.found h,
      h.at.in_is ∙ in_is s complex c.args.net.now (claim_of c.args.cert.now) c.args.stated.now over h.node h.at.live
          ∙ sym (ap (amount_in (network_over s complex) (flow_on (claim_of c.args.cert.now))) h.at.cell_is),
      h.at.out_is ∙ out_is s complex c.args.net.now (claim_of c.args.cert.now) c.args.stated.now over h.node h.at.live
          ∙ sym
          (ap (total_out (network_over s complex) (flow_on (claim_of c.args.cert.now)) (sink_at (claim_of c.args.cert.now)))
          h.at.cell_is),
    )

pub returns-in-None-clause-valid : goal.returns-in-None-clause-valid
returns-in-None-clause-valid c = λ s complex over before. record {
  there = before.there;
  admissible = admissible_from s complex (claim_of c.args.cert.now) before.within.within_arcs.none_fixed;
  valid =
      valid_from s complex c.args.net.now (claim_of c.args.cert.now) c.args.stated.now over before.within
      (subst
      (λ (o : Option Unbalance).
      IfNone o (NoneBelow (length c.args.net.now.counts.fixed.now) (IsUnbalanced c.args.net.now c.args.stated.now.flow)))
      c.in-None.is c.in_ok-found.ensures.none);
}
