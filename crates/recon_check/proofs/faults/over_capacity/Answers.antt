-- The row's facet is the key at its place, and its amount what the certificate states of that (row_told). The capacity is that of the side
-- at the place, which is that of the facet.
use Rattle.std.proofs.Common.{ℕ, ◌<◌, ◌∙◌, List, ap, sym, subst, arith, length}
use Rattle.std.proofs.lemmas.List.{get_or_read, length-map}
use Rattle.certificate.specs.Certificates.{claim_of}
use Rattle.certificate.specs.declared.certificate.FlowRow.{FlowRow}
use Rattle.visibility.specs.Cuts.{network_over}
use Rattle.recon_check.specs.ByRows.{numbers}
use Rattle.recon_check.proofs.CellFaults.{over_rows, side_capacity}
use Rattle.recon_check.proofs.KeyedRows.{first_key, none_key}
use Rattle.recon_check.proofs.Lists.{row_told}
use Rattle.recon_check.proofs.Stopped.{none_from}
use Rattle.recon_check.proofs.faults.over_capacity.Goals as goal

pub returns-in_err-row-clause-none : goal.returns-in_err-row-clause-none
returns-in_err-row-clause-none c =
    none_from c.from_residual.result _ (λ s complex over before. record {
      there = before.there;
      within = record {
        none_fixed = λ row has f. let out = before.admissible.none_fixed row has f.0 in cc (out, f.1);
        within_caps =
            none_key (over_rows s complex c.args.net.now (claim_of c.args.cert.now) c.args.stated.now over before.there.flow)
            c.deref.result.now c.deref.ensures.value c.in_err-row.ensures.none;
      };
    })

pub returns-clause-some : goal.returns-clause-some
returns-clause-some c = λ scan s complex mesh over before.
    let k = c.in_ok-row.row in
    let l : k < length c.args.stated.now.sides.items =
    subst (λ (xs : List ℕ). k < length xs) c.deref.ensures.value c.in_ok-row.ensures.first.in_range in
    let count = over.stated_is.sides_are.count in
    let many = length-map c.args.cert.now.flow.items (λ (r : FlowRow). r.facet) in
    let told =
    row_told (λ (r : FlowRow). r.facet) (λ (r : FlowRow). r.amount) c.args.cert.now.flow.items over.formed.flow.rising k
    c.index.result.now (omega (arith, l, count, many)) c.index.ensures in (
      before.there,
      before.admissible,
      first_key (over_rows s complex c.args.net.now (claim_of c.args.cert.now) c.args.stated.now over before.there.flow)
          c.deref.result.now c.deref.ensures.value k c.index.result.now.facet c.in_ok-row.ensures.first (λ _. told.0),
      told.1,
      c.capacity.ensures.value
          ∙ ap (numbers c.args.net.now).capacity (get_or_read c.args.stated.now.sides.items k c.index-2.result.now l c.index-2.ensures 0)
          ∙ side_capacity s complex c.args.net.now (claim_of c.args.cert.now) c.args.stated.now over k (omega (arith, l, count))
          ∙ sym (ap (network_over s complex).capacity told.0),
    )
