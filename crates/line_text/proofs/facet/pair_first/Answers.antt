use Rattle.line_text.proofs.Kept.{IfNone-holds}
use Rattle.line_text.proofs.FacetForms.{no_pair}
use Rattle.line_text.proofs.facet.pair_first.Goals as goal

pub returns-in_err-b-clause-none : goal.returns-in_err-b-clause-none
returns-in_err-b-clause-none c =
    IfNone-holds _ _
    (no_pair c.args.text.now c.in_ok-a.rest.now c.in_ok-a.a c.args.end c.in_ok-a.ensures.some.0 c.in_ok-a.ensures.some.1
    c.in_err-b.ensures.none)
