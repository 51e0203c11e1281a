use Rattle.std.proofs.Common.{◌-◌, ◌+◌, ◌*◌, get_or, refl, ap, ◌∙◌, arith, ℕ}
use Rattle.line_text.proofs.Kept.{IfNone-holds}
use Rattle.line_text.proofs.Numerals.{AreRead, one_digit_more, past_bits, too_many}
use Rattle.line_text.proofs.digits.all_digits_first.Goals as goal

pub returns-in_err-tens-clause-none : goal.returns-in_err-tens-clause-none
returns-in_err-tens-clause-none c =
    let sure = c.sure_digits-n in
    let digit = c.if-not-has_digit_at.ensures.yes in
    IfNone-holds _ _
    (past_bits c.args.text.now sure.result.1 sure.result.0 (get_or c.args.text.now sure.result.1 0 - 48) digit.0 digit.1 refl
    (record { digits = sure.ensures.digits; value = sure.ensures.value })
    (λ h. c.in_err-tens.ensures (omega (arith, h))))

pub returns-in_err-n-clause-none : goal.returns-in_err-n-clause-none
returns-in_err-n-clause-none c =
    let sure = c.sure_digits-n in
    let digit = c.if-not-has_digit_at.ensures.yes in
    IfNone-holds _ _
    (past_bits c.args.text.now sure.result.1 sure.result.0 c.from.result digit.0 digit.1 c.from.ensures
    (record { digits = sure.ensures.digits; value = sure.ensures.value })
    (λ h. c.in_err-n.ensures (omega (arith, h, c.in_ok-tens.ensures.1))))

pub returns-then-has_digit_at-clause-none : goal.returns-then-has_digit_at-clause-none
returns-then-has_digit_at-clause-none c =
    let sure = c.sure_digits-n in
    let digit = c.if-not-has_digit_at.ensures.yes in
    let so : AreRead c.args.text.now sure.result.1 sure.result.0 =
    record { digits = sure.ensures.digits; value = sure.ensures.value } in
    too_many c.args.text.now (sure.result.1 + 1) (sure.result.0 * 10 + c.from.result)
    (omega (arith, c.if-count-lt-SURE_DIGITS.false)) c.if-has_digit_at.ensures.yes.0 c.if-has_digit_at.ensures.yes.1
    (one_digit_more c.args.text.now sure.result.1 sure.result.0 c.from.result digit.0 digit.1 c.from.ensures so)

pub returns-clause-some : goal.returns-clause-some
returns-clause-some c =
    let sure = c.sure_digits-n in
    let digit = c.if-not-has_digit_at.ensures.yes in
    let more =
    one_digit_more c.args.text.now sure.result.1 sure.result.0 c.from.result digit.0 digit.1 c.from.ensures
    (record { digits = sure.ensures.digits; value = sure.ensures.value }) in (
      omega (arith, digit.0),
      more.digits,
      c.in_ok-n.ensures.1 ∙ ap (λ (t : ℕ). t + c.from.result) c.in_ok-tens.ensures.1 ∙ more.value,
      c.if-has_digit_at.ensures.no,
    )
