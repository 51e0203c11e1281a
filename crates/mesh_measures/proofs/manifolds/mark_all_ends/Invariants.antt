use Rattle.std.proofs.Common.{◌≡◌, length}
use Rattle.mesh_measures.specs.Marks.{IsEndOfOdd, IsFlagged}
use Rattle.mesh_measures.proofs.manifolds.mark_all_ends.Given as goal

abbrev pub invariant-loop-i : goal.invariant-loop-i
invariant-loop-i l =
    record { count : length l.flags ≡ length l.initial.flags; marked : IsFlagged (IsEndOfOdd l.faces l.sides l.i) l.flags }
