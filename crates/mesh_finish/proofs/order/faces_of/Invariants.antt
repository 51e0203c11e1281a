use Rattle.std.proofs.Common.{◌≡◌, map, take}
use Rattle.mesh_finish.specs.Order.{unkeyed}
use Rattle.mesh_finish.proofs.order.faces_of.Given as goal

abbrev pub invariant-loop-keyed : goal.invariant-loop-keyed
invariant-loop-keyed l = l.faces.items ≡ map unkeyed (take l.keyed-index l.list)
