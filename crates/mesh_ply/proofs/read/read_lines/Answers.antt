use Rattle.line_text.specs.Lists.{WithMemory}
use Rattle.line_text.proofs.Rows.{IfErr-holds, IfErr-weaker, WithMemory-holds, WithMemory-weaker}
use Rattle.line_text.proofs.Parts.{word_good, number_refused, number_good}
use Rattle.mesh_ply.specs.Refusals.{AtFaceCount, AtMesh}
use Rattle.mesh_ply.proofs.read.read_lines.Goals as goal

pub returns-in_err-points-clause-refused : goal.returns-in_err-points-clause-refused
returns-in_err-points-clause-refused c =
    IfErr-holds c.from_residual-in_err-points.result c.in_err-points.field-0.0 (λ r. WithMemory r (AtMesh c.args.bytes.now r))
    c.from_residual-in_err-points.ensures.1
    (WithMemory-holds c.in_err-points.field-0.0 (AtMesh c.args.bytes.now c.in_err-points.field-0.0)
    (word_good _ _ _ _ _ _ _ c.first_line.ensures c.in_ok-rest.ensures.ok
    (word_good _ _ _ _ _ _ _ c.format.ensures c.in_ok-rest-2.ensures.ok
    (number_refused _ _ _ _ _ _ _ _ c.vertices.ensures c.in_err-points.ensures.refused))))

pub returns-clause-refused : goal.returns-clause-refused
returns-clause-refused c =
    IfErr-weaker c.read_from_face_count.result (λ r. WithMemory r (AtFaceCount c.in_ok-points.points c.in_ok-points.rest.now r))
    (λ r. WithMemory r (AtMesh c.args.bytes.now r))
    (λ r. WithMemory-weaker r (AtFaceCount c.in_ok-points.points c.in_ok-points.rest.now r) (AtMesh c.args.bytes.now r) (λ h.
    (word_good _ _ _ _ _ _ _ c.first_line.ensures c.in_ok-rest.ensures.ok
    (word_good _ _ _ _ _ _ _ c.format.ensures c.in_ok-rest-2.ensures.ok
    (number_good _ _ _ _ _ _ _ _ _ _ c.vertices.ensures c.in_ok-points.ensures.ok.0 c.in_ok-points.ensures.ok.1 h)))))
    c.read_from_face_count.ensures.refused
