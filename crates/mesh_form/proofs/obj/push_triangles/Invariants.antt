use Rattle.std.proofs.Common.{◌≡◌, ◌++◌, take}
use Rattle.std.specs.List.{flat_map}
use Rattle.mesh_form.specs.Texts.{triangle_line}
use Rattle.mesh_form.proofs.obj.push_triangles.Given as goal

abbrev pub invariant-loop-face : goal.invariant-loop-face
invariant-loop-face l = l.out.items ≡ l.fn.out.items ++ flat_map triangle_line (take l.face-index l.faces)
