use Rattle.std.proofs.Common.{◌≡◌, ◌<◌, length, arith}
use Rattle.num_text.proofs.ScaleLemmas.{many_second, many_first, many_both}
use Rattle.num_text.proofs.decimal.has_many_digits.Goals as goal

pub returns-then-is_empty : goal.returns-then-is_empty
returns-then-is_empty c =
    let none : length c.without_zeros-first.result.now ≡ 0 = grind arith in
    many_second c.args.whole.now c.args.fraction.now c.without_zeros-first.result.now c.without_zeros.result.now
    c.without_zeros-first.ensures none c.without_zeros.ensures

pub returns-then-first-gt-MOST_DIGITS : goal.returns-then-first-gt-MOST_DIGITS
returns-then-first-gt-MOST_DIGITS c =
    let some : 0 < length c.without_zeros-first.result.now = grind arith in
    many_first c.args.whole.now c.args.fraction.now c.without_zeros-first.result.now c.without_zeros-first.ensures some
    c.if-first-gt-MOST_DIGITS.true

pub returns-else-first-gt-MOST_DIGITS : goal.returns-else-first-gt-MOST_DIGITS
returns-else-first-gt-MOST_DIGITS c =
    let some : 0 < length c.without_zeros-first.result.now = grind arith in
    many_both c.args.whole.now c.args.fraction.now c.without_zeros-first.result.now c.without_zeros-first.ensures some
    c.if-first-gt-MOST_DIGITS.false
