use Rattle.std.proofs.Common.{ℕ, ◌≤◌}
use Rattle.mesh_edges.specs.Sets.{IsTop}
use Rattle.mesh_edges.proofs.forest.top_of.Given as goal

abbrev pub invariant-loop-at : goal.invariant-loop-at
invariant-loop-at l =
    record { below : l.at ≤ l.i; from : (t : ℕ) → IsTop l.parents l.at t → IsTop l.parents l.i t }

abbrev pub decreases-loop-at : goal.decreases-loop-at
decreases-loop-at l = l.at
