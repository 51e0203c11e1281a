use Rattle.std.proofs.Common.{take}
use Rattle.mesh_simplify.specs.Keys.{CountsKeys}
use Rattle.mesh_simplify.proofs.single.keys_of.Given as goal

abbrev pub invariant-loop-face : goal.invariant-loop-face
invariant-loop-face l = CountsKeys (take l.face-index l.faces) l.keys.items
