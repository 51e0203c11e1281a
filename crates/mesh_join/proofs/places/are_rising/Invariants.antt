use Rattle.std.proofs.Common.{ℕ, ◌+◌, ◌<◌}
use Rattle.mesh.specs.Meshes.{point_at}
use Rattle.mesh_join.specs.Joins.{IsPlaceBefore}
use Rattle.mesh_join.proofs.places.are_rising.Given as goal

abbrev pub invariant-loop-k : goal.invariant-loop-k
invariant-loop-k l = (j : ℕ) → j + 1 < l.k → IsPlaceBefore (point_at l.places j) (point_at l.places (j + 1))
