-- A whole number of at most 18 digits that matter, with its sign, as 64 bits hold it.
--
-- The digits behind the sign are digits, and so are those without leading zeros (taken_digits). At most 18 of them are below
-- 10^18 (value_small), so neither the sum of digits nor the number with its sign wraps, and the number is that of the token
-- (whole_is).
use Rattle.std.proofs.Common.{unsigned_abs, ◌≡◌, ℕ, length, arith, sym, ap, ◌∙◌, List, Bool}
use Rattle.std.specs.Str.Parse.{digits_value_after}
use Rattle.num_text.specs.WholeNumbers.{significant, are_digits, signed}
use Rattle.std.specs.Int.{w64}
use Rattle.std.proofs.lemmas.Int.{to_z-of_z}
use Rattle.num_text.proofs.DigitLemmas.{done, signed_size, taken_digits, value_small, room_for, whole_is}
use Rattle.num_text.proofs.whole_number.whole.Goals as goal

pub value_after-value-requires : goal.value_after-value-requires
value_after-value-requires c = record {
  digits =
      taken_digits c.without_sign-digits.result.now c.without_zeros-digits.result.now c.without_zeros-digits.ensures
      (sym c.some_digits.ensures ∙ c.if-not-some_digits.false);
  room = room_for 18 c.without_zeros-digits.result.now c.if-digits-gt-MOST_DIGITS.false (omega arith);
}

pub overflow_cast-value : goal.overflow_cast-value
overflow_cast-value c =
    let all =
    taken_digits c.without_sign-digits.result.now c.without_zeros-digits.result.now c.without_zeros-digits.ensures
    (sym c.some_digits.ensures ∙ c.if-not-some_digits.false) in
    omega (
      arith,
      c.value_after-value.ensures,
      value_small 18 c.without_zeros-digits.result.now c.if-digits-gt-MOST_DIGITS.false all,
    )

pub with_sign-requires : goal.with_sign-requires
with_sign-requires c =
    let all =
    taken_digits c.without_sign-digits.result.now c.without_zeros-digits.result.now c.without_zeros-digits.ensures
    (sym c.some_digits.ensures ∙ c.if-not-some_digits.false) in
    omega (
      arith,
      c.value_after-value.ensures,
      value_small 18 c.without_zeros-digits.result.now c.if-digits-gt-MOST_DIGITS.false all,
    )

pub returns-clause-exact : goal.returns-clause-exact
returns-clause-exact c =
    rw (to_z-of_z w64 c.with_sign.result (omega arith))
    (ap done c.with_sign.ensures ∙ ap (λ (m : Bool). done (signed m c.value_after-value.result)) c.has_minus.ensures
    ∙ sym (whole_is c.args.token.now c.value_after-value.result
    (ap are_digits (sym c.without_sign-digits.ensures) ∙ sym c.some_digits.ensures ∙ c.if-not-some_digits.false)
    (omega (
      arith,
      ap length c.without_zeros-digits.ensures,
      ap (λ (d : List ℕ). length (significant d)) c.without_sign-digits.ensures,
    ))
    (c.value_after-value.ensures
    ∙ ap (digits_value_after 10 0) (c.without_zeros-digits.ensures ∙ ap significant c.without_sign-digits.ensures))))

pub returns-clause-short : goal.returns-clause-short
returns-clause-short c =
    let all =
    taken_digits c.without_sign-digits.result.now c.without_zeros-digits.result.now c.without_zeros-digits.ensures
    (sym c.some_digits.ensures ∙ c.if-not-some_digits.false) in
    let size : unsigned_abs c.with_sign.result ≡ c.value_after-value.result =
    ap unsigned_abs c.with_sign.ensures ∙ signed_size c.has_minus.result c.value_after-value.result in
    rw (to_z-of_z w64 c.with_sign.result (omega arith))
    (omega (
      arith,
      size,
      c.value_after-value.ensures,
      value_small 18 c.without_zeros-digits.result.now c.if-digits-gt-MOST_DIGITS.false all,
    ))
