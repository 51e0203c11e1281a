use Rattle.line_text.proofs.SignedTokens.{plain_too_great}
use Rattle.line_text.proofs.read.signed_front.Goals as goal

pub returns-else-n-clause-none : goal.returns-else-n-clause-none
returns-else-n-clause-none c =
    let front = c.in_ok-n-in-None.ensures.some in
    plain_too_great c.args.text.now c.in_ok-n-in-None.rest.now c.in_ok-n-in-None.n front.0 front.1 front.2 c.if-n.false
    c.in-None.ensures.none
