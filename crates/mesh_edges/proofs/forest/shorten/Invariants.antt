use Rattle.std.proofs.Common.{ℕ, ◌≡◌, ◌<◌, length}
use Rattle.mesh_edges.specs.Sets.{IsForest, IsTop}
use Rattle.mesh_edges.proofs.forest.shorten.Given as goal

abbrev pub invariant-loop-parents : goal.invariant-loop-parents
invariant-loop-parents l =
    record {
      forest : IsForest l.parents;
      count : length l.parents ≡ length l.initial.parents;
      within : l.at < length l.parents;
      top : IsTop l.parents l.at l.top;
      kept : (k t : ℕ) → IsTop l.initial.parents k t → IsTop l.parents k t;
    }

abbrev pub decreases-loop-parents : goal.decreases-loop-parents
decreases-loop-parents l = l.at
