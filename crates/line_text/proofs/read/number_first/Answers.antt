use Rattle.std.proofs.Common.{arith}
use Rattle.line_text.proofs.Kept.{IfNone-holds}
use Rattle.line_text.proofs.Numerals.{other_end, over_limit}
use Rattle.line_text.proofs.read.number_first.Goals as goal

pub returns-in_err-rest-clause-none : goal.returns-in_err-rest-clause-none
returns-in_err-rest-clause-none c =
    let front = c.in_ok-n.ensures.some in
    IfNone-holds _ _
    (other_end c.args.text.now c.in_ok-n.rest.now c.in_ok-n.n c.args.end c.args.limit c.requires (omega arith) front.0
    front.1 front.2 c.in_err-rest.ensures.none)

pub returns-else-n-limit-clause-none : goal.returns-else-n-limit-clause-none
returns-else-n-limit-clause-none c =
    let front = c.in_ok-n.ensures.some in
    over_limit c.args.text.now c.in_ok-n.rest.now c.in_ok-rest.rest.now c.in_ok-n.n c.args.end c.args.limit c.requires
    c.if-n-limit.false front.0 front.1 c.in_ok-rest.ensures.some
