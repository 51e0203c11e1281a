use Rattle.std.proofs.Common.{ℕ, ◌<◌, ◌≤◌}
use Rattle.mesh.specs.Meshes.{point_at}
use Rattle.mesh_check.specs.Homes.{IsNearHome}
use Rattle.mesh_check.proofs.search.near_between.Given as goal

abbrev pub invariant-loop-k : goal.invariant-loop-k
invariant-loop-k l = (k : ℕ) → l.start ≤ k → k < l.k → ¬ IsNearHome l.fine l.within (point_at l.homes k) l.p
