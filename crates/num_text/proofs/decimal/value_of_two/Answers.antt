-- The value of the digits before and behind the point as one number, which fits 128 bits.
--
-- Leading zeros do not count for the length, so at most 30 digits matter. If all digits before the point are zeros, the
-- value is that of the others without their leading zeros (value_of_second); else it is that of the first, carried on
-- through all of the second (value_of_both). In each case the room for the digits still to come follows from how many there
-- are in the two together (none_short, some_short).
use Rattle.std.proofs.Common.{◌≡◌, ◌++◌, ◌+◌, ◌*◌, ◌^◌, ◌≤◌, ℕ, ◌<◌, length, arith, ap, sym, ◌∙◌, subst}
use Rattle.std.specs.Str.Parse.{digits_value_after}
use Rattle.num_text.specs.WholeNumbers.{significant}
use Rattle.num_text.proofs.DigitLemmas.{significant_digits, room_for}
use Rattle.num_text.proofs.ScaleLemmas.{TwoParts, two_parts, value_of_second, value_of_both, value_fits, second_room}
use Rattle.num_text.proofs.ScaleLemmas.{none_short, some_short}
use Rattle.num_text.proofs.decimal.value_of_two.Goals as goal

pub value_after-requires-clause-digits : goal.value_after-requires-clause-digits
value_after-requires-clause-digits c =
    let parts : TwoParts c.args.whole.now c.args.fraction.now =
    two_parts c.args.whole.now c.args.fraction.now c.requires.digits in
    rw c.without_zeros.ensures (significant_digits c.args.fraction.now parts.second)

pub value_after-requires-clause-room : goal.value_after-requires-clause-room
value_after-requires-clause-room c =
    let none : length c.without_zeros-first.result.now ≡ 0 = grind arith in
    room_for 30 c.without_zeros.result.now
    (omega (
      arith,
      ap length c.without_zeros.ensures,
      none_short c.args.whole.now c.args.fraction.now (omega (arith, ap length c.without_zeros-first.ensures)) c.requires.short,
    )) (omega arith)

pub returns-then-is_empty-clause-value : goal.returns-then-is_empty-clause-value
returns-then-is_empty-clause-value c =
    let none : length c.without_zeros-first.result.now ≡ 0 = grind arith in
    c.value_after.ensures ∙ ap (digits_value_after 10 0) c.without_zeros.ensures
    ∙ value_of_second c.args.whole.now c.args.fraction.now (omega (arith, ap length c.without_zeros-first.ensures))

pub returns-then-is_empty-clause-small : goal.returns-then-is_empty-clause-small
returns-then-is_empty-clause-small c =
    let none : length c.without_zeros-first.result.now ≡ 0 = grind arith in
    let value =
    c.value_after.ensures ∙ ap (digits_value_after 10 0) c.without_zeros.ensures
    ∙ value_of_second c.args.whole.now c.args.fraction.now (omega (arith, ap length c.without_zeros-first.ensures)) in
    omega (arith, value, value_fits (c.args.whole.now ++ c.args.fraction.now) c.requires.digits c.requires.short)

pub value_after-start-requires-clause-digits : goal.value_after-start-requires-clause-digits
value_after-start-requires-clause-digits c =
    let parts : TwoParts c.args.whole.now c.args.fraction.now =
    two_parts c.args.whole.now c.args.fraction.now c.requires.digits in
    rw c.without_zeros-first.ensures (significant_digits c.args.whole.now parts.first)

pub value_after-start-requires-clause-room : goal.value_after-start-requires-clause-room
value_after-start-requires-clause-room c =
    let some : 0 < length c.without_zeros-first.result.now = grind arith in
    room_for 30 c.without_zeros-first.result.now
    (omega (
      arith,
      ap length c.without_zeros-first.ensures,
      some_short c.args.whole.now c.args.fraction.now (omega (arith, ap length c.without_zeros-first.ensures)) c.requires.short,
    )) (omega arith)

pub value_after-requires-2-clause-room : goal.value_after-requires-2-clause-room
value_after-requires-2-clause-room c =
    let some : 0 < length c.without_zeros-first.result.now = grind arith in
    let parts : TwoParts c.args.whole.now c.args.fraction.now =
    two_parts c.args.whole.now c.args.fraction.now c.requires.digits in
    let start : c.value_after-start.result ≡ digits_value_after 10 0 (significant c.args.whole.now) =
    c.value_after-start.ensures ∙ ap (digits_value_after 10 0) c.without_zeros-first.ensures in
    subst (λ (v : ℕ). (v + 1) * 10 ^ length c.args.fraction.now ≤ 10 ^ 30) (sym start)
    (second_room c.args.whole.now c.args.fraction.now parts.first (omega (arith, ap length c.without_zeros-first.ensures))
    c.requires.short)

pub returns-clause-value : goal.returns-clause-value
returns-clause-value c =
    let some : 0 < length c.without_zeros-first.result.now = grind arith in
    let start = c.value_after-start.ensures ∙ ap (digits_value_after 10 0) c.without_zeros-first.ensures in
    c.value_after-2.ensures ∙ ap (λ (v : ℕ). digits_value_after 10 v c.args.fraction.now) start
    ∙ value_of_both c.args.whole.now c.args.fraction.now (omega (arith, ap length c.without_zeros-first.ensures))

pub returns-clause-small : goal.returns-clause-small
returns-clause-small c =
    let some : 0 < length c.without_zeros-first.result.now = grind arith in
    let start = c.value_after-start.ensures ∙ ap (digits_value_after 10 0) c.without_zeros-first.ensures in
    let value =
    c.value_after-2.ensures ∙ ap (λ (v : ℕ). digits_value_after 10 v c.args.fraction.now) start
    ∙ value_of_both c.args.whole.now c.args.fraction.now (omega (arith, ap length c.without_zeros-first.ensures)) in
    omega (arith, value, value_fits (c.args.whole.now ++ c.args.fraction.now) c.requires.digits c.requires.short)
