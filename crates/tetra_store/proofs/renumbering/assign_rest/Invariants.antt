use Rattle.std.proofs.Common.{ℕ, ◌≡◌, ◌<◌, length}
use Rattle.tetra_store.specs.Links.{links_of, IsLive}
use Rattle.tetra_store.specs.Renumbered.{AreAssigned, HasPlace}
use Rattle.tetra_store.proofs.renumbering.assign_rest.Given as goal

abbrev pub invariant-loop-number : goal.invariant-loop-number
invariant-loop-number l = record {
  assigned : AreAssigned (links_of l.cells.slots) l.places.of.items l.places.from.items;
  count : length l.places.of.items ≡ length l.initial.places.of.items;
  done : (x : ℕ) → x < l.number → IsLive (links_of l.cells.slots) x → HasPlace l.places.of.items x;
}
