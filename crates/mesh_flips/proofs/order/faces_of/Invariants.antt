use Rattle.std.proofs.Common.{◌≡◌, map, take}
use Rattle.mesh_edges.specs.Edges.{face_at}
use Rattle.mesh_flips.proofs.order.faces_of.Given as goal

abbrev pub invariant-loop-number : goal.invariant-loop-number
invariant-loop-number l = l.list.items ≡ map (face_at l.faces) (take l.number-index l.numbers)
