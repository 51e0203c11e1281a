use Rattle.std.proofs.Common.{◌≡◌, map}
use Rattle.mesh.specs.Marks.{marked}
use Rattle.mesh_edges.specs.Edges.{face_at}
use Rattle.mesh_pieces.proofs.kept.marked_faces.Given as goal

abbrev pub invariant-loop-f : goal.invariant-loop-f
invariant-loop-f l = l.list.items ≡ map (face_at l.faces) (marked l.kept l.f)
