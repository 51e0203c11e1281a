-- The row's cell is the key at its place, and its amount what the certificate states of that (row_told). The limit is that of the cell's
-- number at the place, which is that of the cell.
use Rattle.std.proofs.Common.{ℕ, ◌<◌, ◌∙◌, List, ap, sym, subst, arith, length}
use Rattle.std.proofs.lemmas.List.{get_or_read, length-map}
use Rattle.certificate.specs.Certificates.{claim_of}
use Rattle.certificate.specs.declared.certificate.SinkRow.{SinkRow}
use Rattle.flow_net.specs.Faults.{sink_limit}
use Rattle.flow_net.specs.Numbered.{network_by}
use Rattle.visibility.specs.Cuts.{network_over}
use Rattle.recon_check.specs.ByRows.{numbers}
use Rattle.recon_check.proofs.CellFaults.{sink_limit_at, sink_rows}
use Rattle.recon_check.proofs.KeyedRows.{first_key, none_key}
use Rattle.recon_check.proofs.Lists.{row_told}
use Rattle.recon_check.proofs.Stopped.{none_from}
use Rattle.recon_check.proofs.faults.over_sink.Goals as goal

pub returns-in_err-row-clause-none : goal.returns-in_err-row-clause-none
returns-in_err-row-clause-none c =
    none_from c.from_residual.result _ (λ s complex over before. record {
      there = before.there;
      within = record {
        within_arcs = before.within;
        within_sinks =
            none_key (sink_rows s complex c.args.net.now (claim_of c.args.cert.now) c.args.stated.now over before.there.sink)
            c.deref.result.now c.deref.ensures.value c.in_err-row.ensures.none;
      };
    })

pub returns-clause-some : goal.returns-clause-some
returns-clause-some c = λ scan s complex mesh over before.
    let k = c.in_ok-row.row in
    let l : k < length c.args.stated.now.at_sinks.items =
    subst (λ (xs : List ℕ). k < length xs) c.deref.ensures.value c.in_ok-row.ensures.first.in_range in
    let count = over.stated_is.sinks_are.count in
    let many = length-map c.args.cert.now.sink.items (λ (r : SinkRow). r.cell) in
    let told =
    row_told (λ (r : SinkRow). r.cell) (λ (r : SinkRow). r.amount) c.args.cert.now.sink.items over.formed.sink.rising k
    c.index.result.now (omega (arith, l, count, many)) c.index.ensures in (
      before,
      first_key (sink_rows s complex c.args.net.now (claim_of c.args.cert.now) c.args.stated.now over before.there.sink)
          c.deref.result.now c.deref.ensures.value k c.index.result.now.cell c.in_ok-row.ensures.first (λ _. told.0),
      told.1,
      c.limit_at.ensures
          ∙ ap (sink_limit (network_by (numbers c.args.net.now)))
          (get_or_read c.args.stated.now.at_sinks.items k c.index-2.result.now l c.index-2.ensures 0)
          ∙ sink_limit_at s complex c.args.net.now (claim_of c.args.cert.now) c.args.stated.now over k (omega (arith, l, count))
          ∙ sym (ap (sink_limit (network_over s complex)) told.0),
    )
