use Rattle.std.proofs.Common.{◌≡◌, map}
use Rattle.mesh.specs.Meshes.{below}
use Rattle.mesh_flips.specs.Orders.{face_number}
use Rattle.mesh_flips.proofs.order.with_keys.Given as goal

abbrev pub invariant-loop-f : goal.invariant-loop-f
invariant-loop-f l = map face_number l.list.items ≡ below l.f
