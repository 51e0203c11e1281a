use Rattle.std.proofs.Common.{arith}
use Rattle.line_text.proofs.Kept.{IfNone-holds}
use Rattle.cert_text.proofs.FieldForms.{no_cell_first, no_cell_second, no_cell_rises}
use Rattle.cert_text.proofs.fields.cell_first.Goals as goal
use Rattle.cert_text.proofs.fields.cell_first.Goals.{else-a-b-via-then-a-b+then-b-c+else-c-d, else-a-b-via-then-a-b+else-b-c}
use Rattle.cert_text.proofs.fields.cell_first.Goals.{else-a-b-via-else-a-b}

pub returns-in_err-a-clause-none : goal.returns-in_err-a-clause-none
returns-in_err-a-clause-none c = IfNone-holds _ _ (no_cell_first c.args.text.now c.args.end c.in_err-a.ensures.none)

pub returns-in_err-c-clause-none : goal.returns-in_err-c-clause-none
returns-in_err-c-clause-none c =
    IfNone-holds _ _
    (no_cell_second c.args.text.now c.in_ok-a.rest.now c.in_ok-a.a c.in_ok-a.b c.args.end
    (omega (arith, c.in_ok-a.ensures.some.0.0)) (omega (arith, c.in_ok-a.ensures.some.0.1)) c.in_ok-a.ensures.some.1
    c.in_err-c.ensures.none)

pub returns-else-a-b-clause-none : goal.returns-else-a-b-clause-none
returns-else-a-b-clause-none c =
    no_cell_rises c.args.text.now c.in_ok-a.rest.now c.in_ok-c.rest.now c.in_ok-a.a c.in_ok-a.b c.in_ok-c.c c.in_ok-c.d
    c.args.end c.requires
    (omega (arith, c.in_ok-a.ensures.some.0.0)) (omega (arith, c.in_ok-a.ensures.some.0.1))
    (omega (arith, c.in_ok-c.ensures.some.0.0)) (omega (arith, c.in_ok-c.ensures.some.0.1)) c.in_ok-a.ensures.some.1
    c.in_ok-c.ensures.some.1
    (λ h. elim c.else-a-b.branch [
      | else-a-b-via-then-a-b+then-b-c+else-c-d w ↦ omega (arith, h.2, w.if-c-d.false)
      | else-a-b-via-then-a-b+else-b-c w ↦ omega (arith, h.1, w.if-b-c.false)
      | else-a-b-via-else-a-b w ↦ omega (arith, h.0, w.if-a-b.false)
    ])
