use Rattle.std.proofs.Common.{◌≡◌, true, length, arith, ap, ◌∙◌}
use Rattle.std.specs.List.{list_all}
use Rattle.std.specs.Char.{is_ascii_digit}
use Rattle.std.specs.Str.Parse.{digits_value_after}
use Rattle.num_text.specs.Views.{parts_view}
use Rattle.num_text.proofs.DigitLemmas.{significant_digits, room_for, value_small}
use Rattle.num_text.proofs.ScaleLemmas.{exponent_digits, exponent_short, exponent_is}
use Rattle.num_text.proofs.decimal.exponent_value.Goals as goal

pub value_after-requires : goal.value_after-requires
value_after-requires c = record {
  digits =
      rw c.without_zeros.ensures
      (significant_digits (parts_view c.args.parts.now).exponent
      (exponent_digits (parts_view c.args.parts.now) c.requires.decimal c.if-not-parts.false));
  room =
      room_for 4 c.without_zeros.result.now
      (omega (arith, ap length c.without_zeros.ensures, exponent_short (parts_view c.args.parts.now) c.requires.short))
      (omega arith);
}

pub returns-clause-value : goal.returns-clause-value
returns-clause-value c =
    c.value_after.ensures ∙ ap (digits_value_after 10 0) c.without_zeros.ensures
    ∙ exponent_is (parts_view c.args.parts.now) c.if-not-parts.false

pub returns-clause-small : goal.returns-clause-small
returns-clause-small c =
    let all : list_all is_ascii_digit c.without_zeros.result.now ≡ true =
    rw c.without_zeros.ensures
    (significant_digits (parts_view c.args.parts.now).exponent
    (exponent_digits (parts_view c.args.parts.now) c.requires.decimal c.if-not-parts.false)) in
    omega (
      arith,
      c.value_after.ensures,
      value_small 4 c.without_zeros.result.now
          (omega (arith, ap length c.without_zeros.ensures, exponent_short (parts_view c.args.parts.now) c.requires.short)) all,
    )
