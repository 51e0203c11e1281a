use Rattle.std.proofs.Common.{◌≡◌, ◌++◌, take}
use Rattle.std.specs.List.{flat_map}
use Rattle.mesh_form.specs.Texts.{obj_vertex_line}
use Rattle.mesh_form.proofs.obj.push_vertices.Given as goal

abbrev pub invariant-loop-point : goal.invariant-loop-point
invariant-loop-point l = l.out.items ≡ l.fn.out.items ++ flat_map obj_vertex_line (take l.point-index l.points)
