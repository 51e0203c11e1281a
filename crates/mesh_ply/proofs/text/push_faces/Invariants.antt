use Rattle.std.proofs.Common.{◌≡◌, ◌++◌, take}
use Rattle.std.specs.List.{flat_map}
use Rattle.mesh_ply.specs.Texts.{face_line}
use Rattle.mesh_ply.proofs.text.push_faces.Given as goal

abbrev pub invariant-loop-face : goal.invariant-loop-face
invariant-loop-face l = l.out.items ≡ l.fn.out.items ++ flat_map face_line (take l.face-index l.faces)
