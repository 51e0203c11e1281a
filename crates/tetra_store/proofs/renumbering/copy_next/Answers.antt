-- The cell of the next place, copied there with the places of its neighbors.
--
-- It is read at the number that the place stands for. Its neighbors are cells too, so they have places (moved_within),
-- and the copy is the cell with these (cell). It goes into the next slot, whose key is the place; all others stay. So
-- one more is moved (moved_more).
use Rattle.std.proofs.Common.{ℕ, ◌≡◌, List, Option, Some, length, sym, ap, ◌∙◌, subst, arith, slice_index}
use Rattle.std.proofs.lemmas.List.{get_or_read}
use Rattle.tetra_store.specs.declared.link.Cell.{Cell}
use Rattle.tetra_store.specs.Links.{slot_at}
use Rattle.tetra_store.specs.Renumbered.{moved}
use Rattle.tetra_store.proofs.Moves.{moved_within, moved_more}
use Rattle.tetra_store.proofs.renumbering.copy_next.Goals as goal

pub moved_cell-requires : goal.moved_cell-requires
moved_cell-requires c =
    let from = c.args.places.now.from.items in
    let read : slice_index from c.args.at ≡ c.index.result.now =
    sym (get_or_read from c.args.at c.index.result.now c.requires.at c.index.ensures 0) in
    let is : slot_at c.args.cells.now.slots (slice_index from c.args.at) ≡ Some c.index-2.result.now =
    ap (slot_at c.args.cells.now.slots) read ∙ c.index-2.ensures in
    λ k l x i.
    (let w =
    moved_within c.args.cells.now.slots (length c.args.places.now.of.items) (slice_index from c.args.at) c.index-2.result.now
    c.requires.within is k x l i in
    let e = ap length c.deref.ensures.value in
    omega (arith, w, e))

pub returns-clause-moved : goal.returns-clause-moved
returns-clause-moved c =
    let from = c.args.places.now.from.items in
    let of = c.args.places.now.of.items in
    let old = c.args.cells.now.slots in
    let new = c.insert_reserved-key.new.self.slots in
    let at = c.args.at in
    let key = c.insert_reserved-key.result in
    let read : slice_index from at ≡ c.index.result.now =
    sym (get_or_read from at c.index.result.now c.requires.at c.index.ensures 0) in
    let is : slot_at old (slice_index from at) ≡ Some c.index-2.result.now = ap (slot_at old) read ∙ c.index-2.ensures in
    let e : key ≡ at = omega (arith, c.if-key-at.false) in
    let cell : c.moved_cell.result ≡ moved of c.index-2.result.now =
    subst (λ (xs : List (Option ℕ)). c.moved_cell.result ≡ moved xs c.index-2.result.now) c.deref.ensures.value
    c.moved_cell.ensures in
    let here : slot_at new at ≡ Some (moved of c.index-2.result.now) =
    ap (slot_at new) (sym e)
    ∙ (c.insert_reserved-key.ensures.updates.changed ∙ ap (λ (z : Cell). Some z) cell) in
    moved_more old c.args.made.now.slots new of from at c.index-2.result.now c.requires.before is here
    (λ x n. c.insert_reserved-key.ensures.updates.others x (λ i. n (i ∙ e)))
