use Rattle.std.proofs.Common.{◌≡◌, map, take}
use Rattle.mesh_finish.specs.Order.{unkeyed}
use Rattle.mesh_finish.proofs.order.with_keys.Given as goal

abbrev pub invariant-loop-face : goal.invariant-loop-face
invariant-loop-face l = map unkeyed l.list.items ≡ take l.face-index l.faces
