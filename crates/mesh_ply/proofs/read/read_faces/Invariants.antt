use Rattle.std.proofs.Common.{None}
use Rattle.mesh.specs.Meshes.{IsFace}
use Rattle.line_text.proofs.Rows.{IsReadSoFar}
use Rattle.mesh_ply.specs.Texts.{face_line}
use Rattle.mesh_ply.proofs.read.read_faces.Given as goal

abbrev pub invariant-loop-k : goal.invariant-loop-k
invariant-loop-k l = IsReadSoFar (IsFace l.points) face_line None l.text l.rest l.rows.items l.k l.line l.at
