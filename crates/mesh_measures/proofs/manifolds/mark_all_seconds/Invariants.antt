use Rattle.std.proofs.Common.{◌≡◌, ◌⊎◌, length}
use Rattle.mesh_measures.specs.Marks.{HasCorner, HasSecond, IsEndOfOdd, IsFlagged}
use Rattle.mesh_measures.proofs.manifolds.mark_all_seconds.Given as goal

abbrev pub invariant-loop-c : goal.invariant-loop-c
invariant-loop-c l =
    record {
      count : length l.flags ≡ length l.initial.flags;
      seen_count : length l.seen ≡ length l.initial.seen;
      seen : IsFlagged (HasCorner l.faces l.c) l.seen;
      marked :
          IsFlagged (λ v. IsEndOfOdd l.faces l.sides (length l.sides) v ⊎ HasSecond l.faces l.sets.parents.items l.c v) l.flags;
    }
