use Rattle.std.proofs.Common.{arith}
use Rattle.line_text.proofs.Numerals.{digits_fit, one_digit_more}
use Rattle.line_text.proofs.digits.sure_digits.Goals as goal

pub overflow_mul-n : goal.overflow_mul-n
overflow_mul-n c =
    let most = c.min-most.ensures in
    omega (
      arith,
      digits_fit c.args.text.now c.loop-count.count c.loop-count.n 18 (omega (arith, c.loop-count-test.true, most))
          (omega (arith, c.loop-count-test.true, most)) c.loop-count.invariant,
    )

pub overflow_add-n : goal.overflow_add-n
overflow_add-n c =
    let most = c.min-most.ensures in
    omega (
      arith,
      c.from.ensures,
      c.if-byte-gt57.false,
      digits_fit c.args.text.now c.loop-count.count c.loop-count.n 18 (omega (arith, c.loop-count-test.true, most))
          (omega (arith, c.loop-count-test.true, most)) c.loop-count.invariant,
    )

pub loop-count-preserved : goal.loop-count-preserved
loop-count-preserved c =
    one_digit_more c.args.text.now c.loop-count.count c.loop-count.n c.from.result
    (omega (arith, c.loop-count-test.true, c.min-most.ensures)) (c.if-byte-lt48.false, c.if-byte-gt57.false) c.from.ensures
    c.loop-count.invariant
