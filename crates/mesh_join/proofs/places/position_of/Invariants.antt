use Rattle.std.proofs.Common.{ℕ, ◌<◌, ◌≤◌, ◌-◌, length}
use Rattle.mesh.specs.Meshes.{point_at}
use Rattle.mesh_join.specs.Joins.{IsPlaceBefore}
use Rattle.mesh_join.proofs.places.position_of.Given as goal

abbrev pub invariant-loop-low : goal.invariant-loop-low
invariant-loop-low l =
    record {
      order : l.low ≤ l.high;
      within : l.high ≤ length l.places;
      before : (k : ℕ) → k < l.low → IsPlaceBefore (point_at l.places k) l.point;
      after : (k : ℕ) → l.high ≤ k → k < length l.places → ¬ IsPlaceBefore (point_at l.places k) l.point;
    }

abbrev pub decreases-loop-low : goal.decreases-loop-low
decreases-loop-low l = l.high - l.low
