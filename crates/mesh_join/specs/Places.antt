-- Points before they are places.
--
--   mesh_points mesh       the points of a mesh's vertices
--   NeverFall points     no point is before the one that it follows
use Rattle.std.specs.Prelude.{ℕ, ◌<◌, ◌+◌, List, length}
use Rattle.geo_sign.specs.Point.{Point}
use Rattle.mesh.specs.Meshes.{point_at}
use Rattle.mesh.specs.declared.mesh.Mesh.{Mesh}
use Rattle.mesh_join.specs.Joins.{IsPlaceBefore}

-- the points of a mesh's vertices
abbrev pub mesh_points : Mesh → List Point
mesh_points mesh = mesh.points.items

-- no point is before the one that it follows
abbrev pub NeverFall : List Point → Type 0
NeverFall points = (k : ℕ) → k + 1 < length points → ¬ IsPlaceBefore (point_at points (k + 1)) (point_at points k)
