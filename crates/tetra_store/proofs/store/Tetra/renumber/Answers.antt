-- The cells under other numbers are what a store keeps, and the cells of before.
--
-- Each live cell has a place, as its slot is within the table, and so have its neighbors (links_within). The place of a
-- kept cell is below the number of cells, which fits its type. The copied cells are linked as those of before
-- (renumbered), and with the kept cells moved along they are a store again (store_moved).
use Rattle.std.proofs.Common.{ℕ, List, Option, length, subst, arith}
use Rattle.tetra_store.specs.Links.{links_of}
use Rattle.tetra_store.specs.Store.{Store, vertices_at}
use Rattle.tetra_store.specs.Renumbered.{IsPlaced, AreKeptMoved, IsRenumbered}
use Rattle.tetra_store.proofs.Observed.{slot_in}
use Rattle.tetra_store.proofs.Moves.{links_within, renumbered, store_moved}
use Rattle.tetra_store.proofs.store.Tetra.renumber.Goals as goal

pub copies-requires-clause-within : goal.copies-requires-clause-within
copies-requires-clause-within c =
    let i = c.self.inside in
    links_within (vertices_at i.points.items i.inserted.items) i.cells.slots (length c.in_ok-places.places.of.items)
    c.self.invariant.linked
    (λ x live. let s = slot_in i.cells.slots x live in let f = c.in_ok-places.ensures.fits in omega (arith, s, f))

pub all_moved_kept-requires : goal.all_moved_kept-requires
all_moved_kept-requires c =
    λ x n p.
    (let f = c.in_ok-places.ensures.assigned in
    let l = (f.forth x n (subst (λ (xs : List (Option ℕ)). IsPlaced xs x n) c.deref-2.ensures.value p)).0 in
    let m = f.few in
    omega (arith, l, m))

pub invariant_of-self : goal.invariant_of-self
invariant_of-self c =
    let i = c.self.inside in
    let p = c.in_ok-places.places in
    let new = c.in_ok-kept.kept.items in
    let kept : AreKeptMoved p.of.items i.kept.items new (length i.kept.items) =
    subst (λ (xs : List ℕ). AreKeptMoved p.of.items xs new (length xs)) c.deref.ensures.value
    (subst (λ (xs : List (Option ℕ)). AreKeptMoved xs c.deref.result.now new (length c.deref.result.now))
    c.deref-2.ensures.value c.in_ok-kept.ensures) in
    store_moved i.points.items i.inserted.items i.cells.slots c.in_ok-cells.cells.slots i.kept.items new _ _ _ _ p.of.items
    p.from.items c.self.invariant c.in_ok-places.ensures.assigned c.in_ok-places.ensures.all c.in_ok-cells.ensures kept

pub returns-clause-renumbered : goal.returns-clause-renumbered
returns-clause-renumbered c =
    let i = c.self.inside in
    let p = c.in_ok-places.places in
    subst (λ (s : Store). IsRenumbered (links_of s.slots) (links_of c.in_ok-cells.cells.slots)) c.self.view_is
    (renumbered (vertices_at i.points.items i.inserted.items) i.cells.slots c.in_ok-cells.cells.slots p.of.items p.from.items
    c.in_ok-places.ensures.assigned c.in_ok-places.ensures.all c.in_ok-cells.ensures c.self.invariant.linked)
