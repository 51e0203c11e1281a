use Rattle.std.proofs.Common.{◌≡◌, map, take}
use Rattle.mesh_flips.specs.Orders.{face_number}
use Rattle.mesh_flips.proofs.order.numbers_of.Given as goal

abbrev pub invariant-loop-ranked : goal.invariant-loop-ranked
invariant-loop-ranked l = l.numbers.items ≡ map face_number (take l.ranked-index l.list)
