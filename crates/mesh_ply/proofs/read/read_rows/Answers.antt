use Rattle.std.proofs.Common.{◌+◌, None, inl, arith}
use Rattle.line_text.specs.Refusals.{IsRefusedRow}
use Rattle.line_text.specs.Lists.{WithMemory}
use Rattle.line_text.proofs.Rows.{IfErr-holds, WithMemory-weaker, some_left}
use Rattle.mesh.specs.Meshes.{IsFace}
use Rattle.mesh_ply.specs.Texts.{face_line}
use Rattle.mesh_ply.specs.Refusals.{AtPoints}
use Rattle.mesh_ply.proofs.MeshRefused.{at_faces, at_end}
use Rattle.mesh_ply.proofs.read.read_rows.Goals as goal

pub returns-in_err-triangles-clause-refused : goal.returns-in_err-triangles-clause-refused
returns-in_err-triangles-clause-refused c =
    IfErr-holds c.from_residual-in_err-triangles.result c.in_err-triangles.field-0.0
    (λ r. WithMemory r (AtPoints c.args.points c.args.faces c.args.text.now r)) c.from_residual-in_err-triangles.ensures.1
    (WithMemory-weaker c.in_err-triangles.field-0.0
    (IsRefusedRow (IsFace c.args.points) face_line None c.args.faces (c.args.points + 10) c.in_ok-vertices.rest.now
    c.in_err-triangles.field-0.0) (AtPoints c.args.points c.args.faces c.args.text.now c.in_err-triangles.field-0.0)
    (λ h. at_faces c.args.points c.args.faces (c.args.points + 10) _ _ _ _ (omega (arith, c.requires))
    c.in_ok-vertices.ensures.ok.0 c.in_ok-vertices.ensures.ok.1 (inl h)) c.in_err-triangles.ensures.refused)

pub returns-then-not-is_empty-clause-refused : goal.returns-then-not-is_empty-clause-refused
returns-then-not-is_empty-clause-refused c =
    at_faces c.args.points c.args.faces (c.args.points + 10) _ _ _ _ (omega (arith, c.requires)) c.in_ok-vertices.ensures.ok.0
    c.in_ok-vertices.ensures.ok.1
    (at_end c.args.points c.args.faces (c.args.points + 10) _ _ _ _ c.in_ok-triangles.ensures.ok.0
    c.in_ok-triangles.ensures.ok.1
    (some_left c.in_ok-triangles.rest.now c.is_empty.result c.is_empty.ensures c.if-not-is_empty.true) c.saturating_add.ensures)
