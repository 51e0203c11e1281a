use Rattle.std.proofs.Common.{◌≡◌, take}
use Rattle.std.specs.List.{flat_map}
use Rattle.mesh_join.specs.Places.{mesh_points}
use Rattle.mesh_join.proofs.all_places.all_points.Given as goal

abbrev pub invariant-loop-mesh : goal.invariant-loop-mesh
invariant-loop-mesh l = l.points.items ≡ flat_map mesh_points (take l.mesh-index l.meshes)
