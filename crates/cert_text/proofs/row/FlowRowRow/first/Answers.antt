use Rattle.line_text.proofs.Kept.{IfNone-holds}
use Rattle.cert_text.proofs.FieldForms.{no_flow_row}
use Rattle.cert_text.proofs.row.FlowRowRow.first.Goals as goal

pub returns-in_err-amount-clause-none : goal.returns-in_err-amount-clause-none
returns-in_err-amount-clause-none c =
    IfNone-holds _ _
    (no_flow_row c.args.text.now c.in_ok-facet.rest.now c.in_ok-facet.facet c.in_ok-facet.ensures.some.0
    c.in_ok-facet.ensures.some.1 c.in_err-amount.ensures.none)
