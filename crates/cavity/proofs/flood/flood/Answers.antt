-- The flood over neighbors from one cell in conflict.
--
-- The invariant is `IsFlooding`: the cells that were found are live, in conflict and apart, and the sides of the first
-- `done` of them lead to found cells or are in the fan, once each; and the found cells are the marked ones. A visit does the
-- four sides of one cell more. There are no more cells than slots, so it ends (few), and with all of them done the list is
-- closed and the fan is its rim (full).
use Rattle.std.proofs.Common.{ℕ, ◌≡◌, ◌<◌, ◌*◌, ◌+◌, List, [], ◌∷◌, ◌++◌, length, slice_index, slice_index_or, sym, ap, ◌∙◌}
use Rattle.std.proofs.Common.{subst, arith}
use Rattle.std.proofs.lemmas.List.{get_or_default}
use Rattle.tetra_store.specs.declared.fan.Facet.{Facet}
use Rattle.tetra_store.specs.Links.{links_of, IsLive}
use Rattle.tetra_store.specs.Store.{vertices_of}
use Rattle.tetra_store.proofs.Observed.{slot_in}
use Rattle.cavity.specs.Flood.{IsFlooding}
use Rattle.cavity.proofs.Flooding.{started, full}
use Rattle.cavity.proofs.Growing.{marked_more, contains_at, few}
use Rattle.cavity.proofs.flood.flood.Goals as goal

pub loop-done-init : goal.loop-done-init
loop-done-init c =
    let s = c.args.t.now in
    let e : c.push.new.self.items ≡ c.args.from ∷ [] =
    c.in_ok-push.ensures.ok ∙ ap (λ (z : List ℕ). z ++ c.args.from ∷ []) c.requires.no_cells in
    record {
      flooding =
          subst (λ (z : List ℕ).
          IsFlooding (vertices_of s) (links_of s.slots) c.args.p c.args.from z c.args.into.now.fan.items 0) (sym e)
          (subst (λ (z : List Facet). IsFlooding (vertices_of s) (links_of s.slots) c.args.p c.args.from (c.args.from ∷ []) z 0)
          (sym c.requires.no_fan)
          (started (vertices_of s) (links_of s.slots) c.args.p c.args.from c.requires.live c.requires.conflict));
      marked =
          marked_more _ _ _ _ [] c.args.from c.number.result c.push.new.self.items c.number.ensures c.requires.no_marks
          (λ x. c.in_ok-mark.ensures x) e;
    }

pub visit-requires-clause-live : goal.visit-requires-clause-live
visit-requires-clause-live c =
    let l : c.loop-done.done < length c.loop-done.into.cells.items =
    (let t = c.loop-done-test.true in let e = c.len.ensures.value in omega arith) in
    let e : c.index-deref-done.result ≡ slice_index c.loop-done.into.cells.items c.loop-done.done =
    c.index-deref-done.is
    ∙ (ap (λ (z : List ℕ). slice_index_or z c.loop-done.done c.index-deref-done.result) c.deref.ensures
    ∙ get_or_default c.loop-done.into.cells.items c.loop-done.done c.index-deref-done.result 0 l) in
    subst (λ (z : ℕ). IsLive (links_of c.args.t.now.slots) z) (sym e)
    (c.loop-done.invariant.flooding.live (slice_index c.loop-done.into.cells.items c.loop-done.done)
    (contains_at c.loop-done.into.cells.items c.loop-done.done l))

pub visit-requires-clause-marked : goal.visit-requires-clause-marked
visit-requires-clause-marked c = c.loop-done.invariant.marked

pub loop-done-smaller : goal.loop-done-smaller
loop-done-smaller c =
    let f = c.loop-done.invariant.flooding in
    let m =
    few c.loop-done.into.cells.items (length c.args.t.now.slots) f.distinct
    (λ x h. slot_in c.args.t.now.slots x (f.live x h)) in
    let t = c.loop-done-test.true in
    let e = c.len.ensures.value in
    omega arith

pub loop-done-preserved : goal.loop-done-preserved
loop-done-preserved c =
    let l : c.loop-done.done < length c.loop-done.into.cells.items =
    (let t = c.loop-done-test.true in let e = c.len.ensures.value in omega arith) in
    let e : c.index-deref-done.result ≡ slice_index c.loop-done.into.cells.items c.loop-done.done =
    c.index-deref-done.is
    ∙ (ap (λ (z : List ℕ). slice_index_or z c.loop-done.done c.index-deref-done.result) c.deref.ensures
    ∙ get_or_default c.loop-done.into.cells.items c.loop-done.done c.index-deref-done.result 0 l) in
    let n : 4 * c.loop-done.done + 4 ≡ 4 * (c.loop-done.done + 1) = omega arith in
    record {
      flooding =
          subst (λ (z : ℕ). IsFlooding (vertices_of c.args.t.now) (links_of c.args.t.now.slots) c.args.p c.args.from
          c.visit.new.into.cells.items c.visit.new.into.fan.items z) n
          (c.in_ok-visit.ensures.flooding c.args.from c.loop-done.done l (sym e) c.loop-done.invariant.flooding);
      marked = c.in_ok-visit.ensures.marked;
    }

pub returns : goal.returns
returns c =
    let f = c.loop-done.invariant.flooding in
    full (vertices_of c.args.t.now) (links_of c.args.t.now.slots) c.args.p c.args.from c.loop-done.into.cells.items
    c.loop-done.into.fan.items (4 * c.loop-done.done)
    (let t = c.loop-done-test.false in let e = c.len.ensures.value in omega arith) f
