use Rattle.std.proofs.Common.{◌≡◌, length}
use Rattle.tetra_store.specs.Links.{links_of}
use Rattle.tetra_store.specs.Renumbered.{AreAssigned}
use Rattle.tetra_store.proofs.renumbering.assign_listed.Given as goal

abbrev pub invariant-loop-number : goal.invariant-loop-number
invariant-loop-number l = record {
  assigned : AreAssigned (links_of l.cells.slots) l.places.of.items l.places.from.items;
  count : length l.places.of.items ≡ length l.initial.places.of.items;
}
