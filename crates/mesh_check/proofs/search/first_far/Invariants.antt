use Rattle.std.proofs.Common.{ℕ, ◌<◌, ◌≤◌, length}
use Rattle.mesh.specs.Meshes.{point_at}
use Rattle.mesh_check.specs.Homes.{IsNearSome}
use Rattle.mesh_check.proofs.search.first_far.Given as goal

abbrev pub invariant-loop-i : goal.invariant-loop-i
invariant-loop-i l =
    record {
      inside : l.home ≤ length l.homes;
      before : (j : ℕ) → j < l.i → IsNearSome l.fine l.within l.homes (point_at l.points j);
    }
