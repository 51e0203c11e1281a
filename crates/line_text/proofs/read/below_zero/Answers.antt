use Rattle.std.proofs.Common.{arith}
use Rattle.line_text.proofs.Kept.{IfNone-holds}
use Rattle.line_text.proofs.SignedTokens.{out_of_reach, no_digits}
use Rattle.line_text.proofs.read.below_zero.Goals as goal
use Rattle.line_text.proofs.read.below_zero.Goals.{else-n-ge1-via-then-n-ge1+else-n, else-n-ge1-via-else-n-ge1}

pub returns-in_err-n-clause-none : goal.returns-in_err-n-clause-none
returns-in_err-n-clause-none c = IfNone-holds _ _ (no_digits c.args.text.now c.in_err-n.ensures.none)

pub returns-else-n-ge1-clause-none : goal.returns-else-n-ge1-clause-none
returns-else-n-ge1-clause-none c =
    let front = c.in_ok-n.ensures.some in
    out_of_reach c.args.text.now c.in_ok-n.rest.now c.in_ok-n.n front.0 front.1 front.2
    (λ h. elim c.else-n-ge1.branch [
      | else-n-ge1-via-then-n-ge1+else-n w ↦ omega (arith, h.1, w.if-n.false)
      | else-n-ge1-via-else-n-ge1 w ↦ omega (arith, h.0, w.if-n-ge1.false)
    ])
