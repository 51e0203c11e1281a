use Rattle.line_text.proofs.Kept.{IfNone-holds}
use Rattle.line_text.proofs.Numerals.{whole_number, no_number}
use Rattle.line_text.proofs.Rows.{some_left}
use Rattle.line_text.proofs.read.number_of.Goals as goal

pub returns-in_err-n-clause-none : goal.returns-in_err-n-clause-none
returns-in_err-n-clause-none c = IfNone-holds _ _ (no_number c.args.token.now c.in_err-n.ensures.none)

pub returns-else-is_empty-clause-none : goal.returns-else-is_empty-clause-none
returns-else-is_empty-clause-none c = λ m fits e.
    let front = c.in_ok-n.ensures.some in
    some_left c.in_ok-n.rest.now c.is_empty.result c.is_empty.ensures c.if-is_empty.false
    (whole_number c.args.token.now c.in_ok-n.rest.now c.in_ok-n.n m front.0 fits front.1 front.2 e)
