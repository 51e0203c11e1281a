-- What the rows state of a scene's cells and sides.
--
-- Each walk tells of all that is there whether a row is about it. So the first row without a number is a stray one, and where each has
-- one the rows are about cells and sides of the scene, and labels and amounts stand at their numbers (StatedRows).
use Rattle.std.proofs.Common.{ℕ, ◌≡◌, ◌≤◌, ◌*◌, ◌∙◌, Bool, false, List, length, map, slice_index, ap, refl, subst, sym}
use Rattle.std.proofs.lemmas.List.{map-id}
use Rattle.certificate.specs.Certificates.{claim_of}
use Rattle.certificate.specs.declared.certificate.FlowRow.{FlowRow}
use Rattle.certificate.specs.declared.certificate.SinkRow.{SinkRow}
use Rattle.flow_net.specs.Firsts.{IsFirst}
use Rattle.flow_net.specs.Nets.{flag_at}
use Rattle.tetra_store.specs.Links.{links_of}
use Rattle.cell_net.specs.Counts.{row_of}
use Rattle.recon_check.specs.Claims.{flow_facets, sink_cells}
use Rattle.recon_check.specs.Lookups.{is_open_side, side_facet, AreNumbersApart, AreFound}
use Rattle.recon_check.proofs.StatedRows.{AreAllFound, AreBelow, ArePlacedAt, all_there, cells_covered, is_stated}
use Rattle.recon_check.proofs.StatedRows.{numbers_apart, sides_covered, stray_first}
use Rattle.recon_check.proofs.stated.stated_by.Goals as goal
use Rattle.recon_check.proofs.stated.stated_by.Goals.{In_default, In_default-first_past, In_default-first_past-2}

-- ---- what was found, of what the certificate has
found_of : {limit : ℕ} {is_there : ℕ → Bool} {key_at : ℕ → List ℕ} {keys given : List (List ℕ)} {numbers : List ℕ} → given ≡ keys
    → AreFound limit limit is_there key_at given numbers → AreFound limit limit is_there key_at keys numbers
found_of {limit = limit} {is_there = is_there} {key_at = key_at} {numbers = numbers} e found =
    subst (λ (list : List (List ℕ)). AreFound limit limit is_there key_at list numbers) e found

first_of : (limit : ℕ) {numbers given : List ℕ} (k : ℕ) → given ≡ numbers
    → IsFirst (length given) (λ i. limit ≤ slice_index given i) k → IsFirst (length numbers) (λ i. limit ≤ slice_index numbers i) k
first_of limit k e first = subst (λ (list : List ℕ). IsFirst (length list) (λ i. limit ≤ slice_index list i) k) e first

placed_of : {X : Type 0} (read : List X → ℕ → X) (nothing : X) {values told : ℕ → X} {numbers given : List ℕ} (count : ℕ)
    {placed stored : List X} → told ≡ values → given ≡ numbers → stored ≡ placed
    → ArePlacedAt read nothing told given count placed → ArePlacedAt read nothing values numbers count stored
placed_of {X} read nothing {values = values} {numbers = numbers} {given = given} count {placed = placed} d e f h =
    subst (ArePlacedAt read nothing values numbers count) (sym f)
    (subst (λ (list : List ℕ). ArePlacedAt read nothing values list count placed) e
    (subst (λ (told : ℕ → X). ArePlacedAt read nothing told given count placed) d h))

cells_found : (c : In_default)
    → AreAllFound (length c.args.fixed.now) (links_of c.args.t.now.slots).is_live (row_of c.args.t.now.slots)
    c.args.cert.now.inside.items c.in_ok-cells.cells.items
cells_found c = record {
  found = found_of (map-id c.deref.result.now ∙ c.deref.ensures.value) c.in_ok-cells.ensures;
  below = subst (AreBelow (length c.args.fixed.now)) c.deref-2.ensures.value c.in_default.ensures.none;
}

sides_found : (c : In_default-first_past)
    → AreAllFound (4 * length c.args.fixed.now) (is_open_side c.args.t.now.slots c.args.fixed.now) (side_facet c.args.t.now.slots)
    (flow_facets (claim_of c.args.cert.now)) c.in_ok-sides.sides.items
sides_found c = record {
  found = found_of (ap (map (λ (row : FlowRow). row.facet)) c.deref-3.ensures.value) c.in_ok-sides.ensures;
  below = subst (AreBelow (4 * length c.args.fixed.now)) c.deref-4.ensures.value c.in_default-first_past.ensures.none;
}

sinks_found : (c : In_default-first_past-2)
    → AreAllFound (length c.args.fixed.now) (links_of c.args.t.now.slots).is_live (row_of c.args.t.now.slots)
    (sink_cells (claim_of c.args.cert.now)) c.in_ok-at_sinks.at_sinks.items
sinks_found c = record {
  found = found_of (ap (map (λ (row : SinkRow). row.cell)) c.deref-5.ensures.value) c.in_ok-at_sinks.ensures;
  below = subst (AreBelow (length c.args.fixed.now)) c.deref-6.ensures.value c.in_default-first_past-2.ensures.none;
}

-- ---- the first row that is stray
pub returns-in-Some-clause-stray : goal.returns-in-Some-clause-stray
returns-in-Some-clause-stray c = λ scan s complex mesh flagged is.
    stray_first (found_of (map-id c.deref.result.now ∙ c.deref.ensures.value) c.in_ok-cells.ensures)
    (cells_covered s c.args.t.now.slots c.args.fixed.now flagged complex is) c.in-Some.place
    (first_of (length c.args.fixed.now) c.in-Some.place c.deref-2.ensures.value c.in-Some.ensures.some)

pub returns-in-Some-first_past-clause-stray : goal.returns-in-Some-first_past-clause-stray
returns-in-Some-first_past-clause-stray c = λ scan s complex mesh flagged is. (
  all_there (cells_found (goal.at.returns-in-Some-first_past-clause-stray c).In_default)
      (cells_covered s c.args.t.now.slots c.args.fixed.now flagged complex is),
  stray_first (found_of (ap (map (λ (row : FlowRow). row.facet)) c.deref-3.ensures.value) c.in_ok-sides.ensures)
      (sides_covered s c.args.t.now.slots c.args.fixed.now flagged complex is) c.in-Some-first_past.place
      (first_of (4 * length c.args.fixed.now) c.in-Some-first_past.place c.deref-4.ensures.value c.in-Some-first_past.ensures.some),
)

pub returns-in-Some-first_past-2-clause-stray : goal.returns-in-Some-first_past-2-clause-stray
returns-in-Some-first_past-2-clause-stray c = λ scan s complex mesh flagged is. (
  all_there (cells_found (goal.at.returns-in-Some-first_past-2-clause-stray c).In_default)
      (cells_covered s c.args.t.now.slots c.args.fixed.now flagged complex is),
  all_there (sides_found (goal.at.returns-in-Some-first_past-2-clause-stray c).In_default-first_past)
      (sides_covered s c.args.t.now.slots c.args.fixed.now flagged complex is),
  stray_first (found_of (ap (map (λ (row : SinkRow). row.cell)) c.deref-5.ensures.value) c.in_ok-at_sinks.ensures)
      (cells_covered s c.args.t.now.slots c.args.fixed.now flagged complex is) c.in-Some-first_past-2.place
      (first_of (length c.args.fixed.now) c.in-Some-first_past-2.place c.deref-6.ensures.value c.in-Some-first_past-2.ensures.some),
)

-- ---- all rows have numbers
pub flow_at-requires-clause-apart : goal.flow_at-requires-clause-apart
flow_at-requires-clause-apart c =
    subst AreNumbersApart (sym c.deref-9.ensures.value)
    (numbers_apart (sides_found (goal.at.flow_at-requires-clause-apart c).In_default-first_past) c.requires.formed.flow.rising)

pub sinks_at-requires-clause-apart : goal.sinks_at-requires-clause-apart
sinks_at-requires-clause-apart c =
    subst AreNumbersApart (sym c.deref-11.ensures.value)
    (numbers_apart (sinks_found (goal.at.sinks_at-requires-clause-apart c).In_default-first_past-2) c.requires.formed.sink.rising)

pub returns-clause-stated : goal.returns-clause-stated
returns-clause-stated c =
    is_stated c.requires.cells.0 c.args.t.now.slots c.args.fixed.now c.requires.cells.1 (claim_of c.args.cert.now)
    c.requires.formed _ (cells_found (goal.at.returns-clause-stated c).In_default)
    (sides_found (goal.at.returns-clause-stated c).In_default-first_past)
    (sinks_found (goal.at.returns-clause-stated c).In_default-first_past-2)
    (placed_of flag_at false (length c.args.fixed.now) refl c.deref-7.ensures.value c.from.ensures
    (record { many = c.in_ok-flags_at.ensures.count; set = c.in_ok-flags_at.ensures.set; unset = c.in_ok-flags_at.ensures.unset }))
    (placed_of slice_index 0 (4 * length c.args.fixed.now)
    (ap (λ (rows : List FlowRow). slice_index (map (λ (row : FlowRow). row.amount) rows)) c.deref-8.ensures.value)
    c.deref-9.ensures.value c.from-2.ensures
    (record { many = c.in_ok-flow_at.ensures.count; set = c.in_ok-flow_at.ensures.set; unset = c.in_ok-flow_at.ensures.unset }))
    (placed_of slice_index 0 (length c.args.fixed.now)
    (ap (λ (rows : List SinkRow). slice_index (map (λ (row : SinkRow). row.amount) rows)) c.deref-10.ensures.value)
    c.deref-11.ensures.value c.from-3.ensures
    (record { many = c.in_ok-sinks_at.ensures.count; set = c.in_ok-sinks_at.ensures.set; unset = c.in_ok-sinks_at.ensures.unset }))

pub returns-clause-there : goal.returns-clause-there
returns-clause-there c = λ s complex flagged is. record {
  inside =
      all_there (cells_found (goal.at.returns-clause-there c).In_default)
      (cells_covered s c.args.t.now.slots c.args.fixed.now flagged complex is);
  flow =
      all_there (sides_found (goal.at.returns-clause-there c).In_default-first_past)
      (sides_covered s c.args.t.now.slots c.args.fixed.now flagged complex is);
  sink =
      all_there (sinks_found (goal.at.returns-clause-there c).In_default-first_past-2)
      (cells_covered s c.args.t.now.slots c.args.fixed.now flagged complex is);
}
