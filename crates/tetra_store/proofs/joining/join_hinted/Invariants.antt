use Rattle.std.proofs.Common.{◌≡◌}
use Rattle.slab.specs.Slab.{slab_len}
use Rattle.tetra_store.specs.Links.{links_of}
use Rattle.tetra_store.specs.Steps.{AreJoined}
use Rattle.tetra_store.proofs.joining.join_hinted.Given as goal

abbrev pub invariant-loop-at : goal.invariant-loop-at
invariant-loop-at l = record {
  joined : AreJoined (links_of l.initial.cells.slots) (links_of l.cells.slots) l.edges l.at;
  capacity : l.cells.capacity ≡ l.initial.cells.capacity;
  len : slab_len l.cells ≡ slab_len l.initial.cells;
}
