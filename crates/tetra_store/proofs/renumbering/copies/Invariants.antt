use Rattle.std.proofs.Common.{◌≡◌, ◌≤◌, length}
use Rattle.slab.specs.Slab.{slab_len}
use Rattle.tetra_store.specs.Renumbered.{AreMoved}
use Rattle.tetra_store.proofs.renumbering.copies.Given as goal

abbrev pub invariant-loop-at : goal.invariant-loop-at
invariant-loop-at l = record {
  moved : AreMoved l.cells.slots l.made.slots l.places.of.items l.places.from.items l.at;
  len : slab_len l.made ≡ l.at;
  capacity : length l.places.from.items ≤ l.made.capacity;
}
