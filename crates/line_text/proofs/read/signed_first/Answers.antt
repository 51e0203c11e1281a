use Rattle.std.proofs.Common.{arith}
use Rattle.std.specs.Int.{w64}
use Rattle.std.proofs.lemmas.Int.{ints, to_z-of_z}
use Rattle.line_text.proofs.Kept.{IfNone-holds}
use Rattle.line_text.proofs.SignedTokens.{signed_is, other_signed_end, out_of_bounds}
use Rattle.line_text.proofs.read.signed_first.Goals as goal
use Rattle.line_text.proofs.read.signed_first.Goals.{else-least-z-via-then-least-z+else-z-greatest}
use Rattle.line_text.proofs.read.signed_first.Goals.{else-least-z-via-else-least-z}

pub returns-in_err-rest-clause-none : goal.returns-in_err-rest-clause-none
returns-in_err-rest-clause-none c =
    let front = c.in_ok-z.ensures.some in
    IfNone-holds _ _
    (other_signed_end c.args.text.now c.in_ok-z.rest.now c.args.end c.args.least c.args.greatest c.in_ok-z.z c.requires
    c.ranges.least.sfits c.ranges.greatest.sfits front.0 front.1 front.2 c.in_err-rest.ensures.none)

pub returns-then-z-greatest-clause-some : goal.returns-then-z-greatest-clause-some
returns-then-z-greatest-clause-some c =
    let front = c.in_ok-z.ensures.some in
    let is = to_z-of_z w64 c.in_ok-z.z (record { sfits = front.0 }) in
    rw is (
      (omega (arith, ints, rw is at c.if-least-z.true), omega (arith, ints, rw is at c.if-z-greatest.true)),
      signed_is c.args.text.now c.in_ok-z.rest.now c.in_ok-rest.rest.now c.in_ok-z.z c.args.end front.1 c.in_ok-rest.ensures.some,
    )

pub returns-else-least-z-clause-none : goal.returns-else-least-z-clause-none
returns-else-least-z-clause-none c =
    let front = c.in_ok-z.ensures.some in
    out_of_bounds c.args.text.now c.in_ok-z.rest.now c.args.end c.args.least c.args.greatest c.in_ok-z.z c.requires
    c.ranges.least.sfits c.ranges.greatest.sfits front.0
    (λ h. elim c.else-least-z.branch [
      | else-least-z-via-then-least-z+else-z-greatest w ↦ omega (arith, ints, h.1, w.if-z-greatest.false)
      | else-least-z-via-else-least-z w ↦ omega (arith, ints, h.0, w.if-least-z.false)
    ])
    front.1 front.2
