use Rattle.std.proofs.Common.{arith}
use Rattle.line_text.proofs.Kept.{IfNone-holds}
use Rattle.line_text.proofs.FacetForms.{no_facet_first, no_facet_second, no_facet_order}
use Rattle.line_text.proofs.facet.facet_first.Goals as goal
use Rattle.line_text.proofs.facet.facet_first.Goals.{else-a-b-via-then-a-b+then-a-c+else-b-c, else-a-b-via-then-a-b+else-a-c}
use Rattle.line_text.proofs.facet.facet_first.Goals.{else-a-b-via-else-a-b}

pub returns-in_err-a-clause-none : goal.returns-in_err-a-clause-none
returns-in_err-a-clause-none c = IfNone-holds _ _ (no_facet_first c.args.text.now c.args.end c.in_err-a.ensures.none)

pub returns-in_err-b-clause-none : goal.returns-in_err-b-clause-none
returns-in_err-b-clause-none c =
    IfNone-holds _ _
    (no_facet_second c.args.text.now c.in_ok-a.rest.now c.in_ok-a.a c.args.end c.in_ok-a.ensures.some.0 c.in_ok-a.ensures.some.1
    c.in_err-b.ensures.none)

pub returns-else-a-b-clause-none : goal.returns-else-a-b-clause-none
returns-else-a-b-clause-none c =
    no_facet_order c.args.text.now c.in_ok-a.rest.now c.in_ok-b.rest.now c.in_ok-a.a c.in_ok-b.b c.in_ok-b.c
    c.args.end c.requires
    c.in_ok-a.ensures.some.0 c.in_ok-b.ensures.some.0 c.in_ok-a.ensures.some.1 c.in_ok-b.ensures.some.1
    (λ h. elim c.else-a-b.branch [
      | else-a-b-via-then-a-b+then-a-c+else-b-c w ↦ h.2 w.if-b-c.false
      | else-a-b-via-then-a-b+else-a-c w ↦ omega (arith, h.1, w.if-a-c.false)
      | else-a-b-via-else-a-b w ↦ omega (arith, h.0, w.if-a-b.false)
    ])
