-- The header of a mesh from behind its first count on, line after line.
--
-- A refusal in a line is that of the text, as the lines before it were read: word_good and number_good put a line that was
-- read in front of what is refused behind it, so each goal is such a chain, longer by one than the goal before. The last is
-- for what the rows behind the header refuse.
use Rattle.line_text.specs.Lists.{WithMemory}
use Rattle.line_text.proofs.Rows.{IfErr-holds, IfErr-weaker, WithMemory-holds, WithMemory-weaker}
use Rattle.line_text.proofs.Parts.{word_refused, word_good, number_refused, number_good}
use Rattle.mesh_ply.specs.Refusals.{AtPoints, AtFaceCount}
use Rattle.mesh_ply.proofs.read.read_from_face_count.Goals as goal

pub returns-in_err-rest-3-clause-refused : goal.returns-in_err-rest-3-clause-refused
returns-in_err-rest-3-clause-refused c =
    IfErr-holds c.from_residual-in_err-rest-3.result c.in_err-rest-3.field-0.0
    (λ r. WithMemory r (AtFaceCount c.args.points c.args.text.now r)) c.from_residual-in_err-rest-3.ensures.1
    (WithMemory-holds c.in_err-rest-3.field-0.0 (AtFaceCount c.args.points c.args.text.now c.in_err-rest-3.field-0.0)
    (word_good _ _ _ _ _ _ _ c.x.ensures c.in_ok-rest.ensures.ok
    (word_good _ _ _ _ _ _ _ c.y.ensures c.in_ok-rest-2.ensures.ok
    (word_refused _ _ _ _ _ _ c.z.ensures c.in_err-rest-3.ensures.refused))))

pub returns-in_err-count-clause-refused : goal.returns-in_err-count-clause-refused
returns-in_err-count-clause-refused c =
    IfErr-holds c.from_residual-in_err-count.result c.in_err-count.field-0.0
    (λ r. WithMemory r (AtFaceCount c.args.points c.args.text.now r)) c.from_residual-in_err-count.ensures.1
    (WithMemory-holds c.in_err-count.field-0.0 (AtFaceCount c.args.points c.args.text.now c.in_err-count.field-0.0)
    (word_good _ _ _ _ _ _ _ c.x.ensures c.in_ok-rest.ensures.ok
    (word_good _ _ _ _ _ _ _ c.y.ensures c.in_ok-rest-2.ensures.ok
    (word_good _ _ _ _ _ _ _ c.z.ensures c.in_ok-rest-3.ensures.ok
    (number_refused _ _ _ _ _ _ _ _ c.faces.ensures c.in_err-count.ensures.refused)))))

pub returns-in_err-rest-4-clause-refused : goal.returns-in_err-rest-4-clause-refused
returns-in_err-rest-4-clause-refused c =
    IfErr-holds c.from_residual-in_err-rest-4.result c.in_err-rest-4.field-0.0
    (λ r. WithMemory r (AtFaceCount c.args.points c.args.text.now r)) c.from_residual-in_err-rest-4.ensures.1
    (WithMemory-holds c.in_err-rest-4.field-0.0 (AtFaceCount c.args.points c.args.text.now c.in_err-rest-4.field-0.0)
    (word_good _ _ _ _ _ _ _ c.x.ensures c.in_ok-rest.ensures.ok
    (word_good _ _ _ _ _ _ _ c.y.ensures c.in_ok-rest-2.ensures.ok
    (word_good _ _ _ _ _ _ _ c.z.ensures c.in_ok-rest-3.ensures.ok
    (number_good _ _ _ _ _ _ _ _ _ _ c.faces.ensures c.in_ok-count.ensures.ok.0 c.in_ok-count.ensures.ok.1
    (word_refused _ _ _ _ _ _ c.list.ensures c.in_err-rest-4.ensures.refused))))))

pub returns-in_err-rest-5-clause-refused : goal.returns-in_err-rest-5-clause-refused
returns-in_err-rest-5-clause-refused c =
    IfErr-holds c.from_residual-in_err-rest-5.result c.in_err-rest-5.field-0.0
    (λ r. WithMemory r (AtFaceCount c.args.points c.args.text.now r)) c.from_residual-in_err-rest-5.ensures.1
    (WithMemory-holds c.in_err-rest-5.field-0.0 (AtFaceCount c.args.points c.args.text.now c.in_err-rest-5.field-0.0)
    (word_good _ _ _ _ _ _ _ c.x.ensures c.in_ok-rest.ensures.ok
    (word_good _ _ _ _ _ _ _ c.y.ensures c.in_ok-rest-2.ensures.ok
    (word_good _ _ _ _ _ _ _ c.z.ensures c.in_ok-rest-3.ensures.ok
    (number_good _ _ _ _ _ _ _ _ _ _ c.faces.ensures c.in_ok-count.ensures.ok.0 c.in_ok-count.ensures.ok.1
    (word_good _ _ _ _ _ _ _ c.list.ensures c.in_ok-rest-4.ensures.ok
    (word_refused _ _ _ _ _ _ c.last_line.ensures c.in_err-rest-5.ensures.refused)))))))

pub returns-clause-refused : goal.returns-clause-refused
returns-clause-refused c =
    IfErr-weaker c.read_rows.result (λ r. WithMemory r (AtPoints c.args.points c.in_ok-count.count c.in_ok-rest-5.rest.now r))
    (λ r. WithMemory r (AtFaceCount c.args.points c.args.text.now r))
    (λ r. WithMemory-weaker r (AtPoints c.args.points c.in_ok-count.count c.in_ok-rest-5.rest.now r)
    (AtFaceCount c.args.points c.args.text.now r) (λ h.
    (word_good _ _ _ _ _ _ _ c.x.ensures c.in_ok-rest.ensures.ok
    (word_good _ _ _ _ _ _ _ c.y.ensures c.in_ok-rest-2.ensures.ok
    (word_good _ _ _ _ _ _ _ c.z.ensures c.in_ok-rest-3.ensures.ok
    (number_good _ _ _ _ _ _ _ _ _ _ c.faces.ensures c.in_ok-count.ensures.ok.0 c.in_ok-count.ensures.ok.1
    (word_good _ _ _ _ _ _ _ c.list.ensures c.in_ok-rest-4.ensures.ok
    (word_good _ _ _ _ _ _ _ c.last_line.ensures c.in_ok-rest-5.ensures.ok h)))))))) c.read_rows.ensures.refused
