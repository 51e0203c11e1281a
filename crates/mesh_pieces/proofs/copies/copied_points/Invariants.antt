use Rattle.std.proofs.Common.{◌≡◌, map, take}
use Rattle.mesh.specs.Meshes.{point_at}
use Rattle.mesh_pieces.proofs.copies.copied_points.Given as goal

abbrev pub invariant-loop-old : goal.invariant-loop-old
invariant-loop-old l = l.list.items ≡ map (point_at l.points) (take l.old-index l.origin)
