use Rattle.std.proofs.Common.{[]}
use Rattle.std.proofs.lemmas.List.{get_or_read}
use Rattle.certificate.specs.Certificates.{claim_of}
use Rattle.recon_check.proofs.CellFaults.{admissible_from, fixed_rows}
use Rattle.recon_check.proofs.KeyedRows.{first_key, none_key}
use Rattle.recon_check.proofs.Stopped.{none_from}
use Rattle.recon_check.proofs.faults.fixed_inside.Goals as goal

pub returns-in_err-row-clause-none : goal.returns-in_err-row-clause-none
returns-in_err-row-clause-none c =
    none_from c.from_residual.result _ (λ s complex over before. record {
      there = before;
      admissible =
          admissible_from s complex (claim_of c.args.cert.now)
          (none_key (fixed_rows s complex c.args.net.now (claim_of c.args.cert.now) c.args.stated.now over before.inside)
          c.deref.result.now c.deref.ensures.value c.in_err-row.ensures.none);
    })

pub returns-clause-some : goal.returns-clause-some
returns-clause-some c = λ scan s complex mesh over before. (
  before,
  first_key (fixed_rows s complex c.args.net.now (claim_of c.args.cert.now) c.args.stated.now over before.inside)
      c.deref.result.now c.deref.ensures.value c.in_ok-row.row c.index.result.now c.in_ok-row.ensures.first
      (λ l. get_or_read c.args.cert.now.inside.items c.in_ok-row.row c.index.result.now l c.index.ensures []),
)
