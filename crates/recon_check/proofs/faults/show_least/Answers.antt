use Rattle.std.proofs.Common.{[]}
use Rattle.std.proofs.lemmas.List.{get_or_read}
use Rattle.certificate.specs.Certificates.{claim_of}
use Rattle.recon_check.proofs.CellFaults.{best, largest, least_rows}
use Rattle.recon_check.proofs.KeyedRows.{first_key, none_key}
use Rattle.recon_check.proofs.faults.show_least.Goals as goal

pub least_inside-requires : goal.least_inside-requires
least_inside-requires c =
    let h = c.requires.certified in
    largest h.0 h.1 c.args.net.now (claim_of c.args.cert.now) c.args.stated.now h.2 h.3

pub returns-in-Some-clause-fault : goal.returns-in-Some-clause-fault
returns-in-Some-clause-fault c = λ scan s complex mesh over certified. (
  certified,
  first_key
      (least_rows s complex c.args.net.now (claim_of c.args.cert.now) c.args.stated.now over certified c.in_ok-least.least
      c.in_ok-least.ensures.least c.in_ok-least.ensures.cost) c.deref.result.now c.deref.ensures.value c.in-Some.row
      c.index.result.now c.in-Some.ensures.first
      (λ l. get_or_read c.args.cert.now.inside.items c.in-Some.row c.index.result.now l c.index.ensures []),
)

pub returns-clause-best : goal.returns-clause-best
returns-clause-best c = λ s complex over certified.
    best s complex c.args.net.now (claim_of c.args.cert.now) c.args.stated.now over certified c.in_ok-least.least
    c.in_ok-least.ensures.least c.in_ok-least.ensures.cost
    (none_key
    (least_rows s complex c.args.net.now (claim_of c.args.cert.now) c.args.stated.now over certified c.in_ok-least.least
    c.in_ok-least.ensures.least c.in_ok-least.ensures.cost) c.deref.result.now c.deref.ensures.value c.in-None.ensures.none)
