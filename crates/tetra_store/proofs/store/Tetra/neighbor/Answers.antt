use Rattle.std.proofs.Common.{sym, ap, ◌∙◌, subst, ℕ}
use Rattle.slab.specs.Slab.{ContainsKey}
use Rattle.tetra_store.specs.Links.{slot_at}
use Rattle.tetra_store.specs.Store.{vertices_at}
use Rattle.tetra_store.proofs.Observed.{back_across, named_in}
use Rattle.tetra_store.proofs.store.Tetra.neighbor.Goals as goal

pub index-there-requires : goal.index-there-requires
index-there-requires c =
    let i = c.self.inside in
    let back =
    back_across (vertices_at i.points.items i.inserted.items) i.cells.slots c.self.invariant.linked c.args.id c.args.side
    c.in_ok-next.next c.index-cell.result.now (ap (slot_at i.cells.slots) (sym c.number.ensures) ∙ c.index-cell.ensures)
    c.requires.side (sym c.next.ensures ∙ c.in_ok-next.was) in
    subst (λ (n : ℕ). ContainsKey i.cells n) (sym c.number-2.ensures) back.live

pub side_to-requires-clause-neighbor : goal.side_to-requires-clause-neighbor
side_to-requires-clause-neighbor c =
    let i = c.self.inside in
    let back =
    back_across (vertices_at i.points.items i.inserted.items) i.cells.slots c.self.invariant.linked c.args.id c.args.side
    c.in_ok-next.next c.index-cell.result.now (ap (slot_at i.cells.slots) (sym c.number.ensures) ∙ c.index-cell.ensures)
    c.requires.side (sym c.next.ensures ∙ c.in_ok-next.was) in (
      back.side,
      back.in_range,
      named_in i.cells.slots c.in_ok-next.next back.side c.args.id c.index-there.result.now
          (ap (slot_at i.cells.slots) (sym c.number-2.ensures) ∙ c.index-there.ensures) back.named,
    )
