use Rattle.std.proofs.Common.{arith}
use Rattle.num_text.proofs.DigitLemmas.{value_room, one_value_more, digit_there}
use Rattle.num_text.proofs.digits.value_after.Goals as goal

pub overflow_mul-value : goal.overflow_mul-value
overflow_mul-value c =
    omega (
      arith,
      value_room c.args.start c.args.digits.now c.loop-byte.byte-index c.loop-byte.value c.loop-byte-test.true
          c.loop-byte.invariant,
    )

pub overflow_add-value : goal.overflow_add-value
overflow_add-value c =
    let digit = digit_there c.args.digits.now c.loop-byte.byte-index c.requires.digits c.loop-byte-test.true in
    omega (
      arith,
      c.from.ensures,
      digit.0,
      digit.1,
      value_room c.args.start c.args.digits.now c.loop-byte.byte-index c.loop-byte.value c.loop-byte-test.true
          c.loop-byte.invariant,
    )

pub loop-byte-preserved : goal.loop-byte-preserved
loop-byte-preserved c =
    one_value_more c.args.start c.args.digits.now c.loop-byte.byte-index c.loop-byte.value c.from.result c.loop-byte-test.true
    c.requires.digits c.from.ensures c.loop-byte.invariant
