use Rattle.std.proofs.Common.{◌≡◌, map, take}
use Rattle.mesh_simplify.specs.Keys.{face_key}
use Rattle.mesh_simplify.proofs.distinct.keys_of.Given as goal

abbrev pub invariant-loop-face : goal.invariant-loop-face
invariant-loop-face l = l.keys.items ≡ map face_key (take l.face-index l.faces)
