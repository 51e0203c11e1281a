-- Decimals as text, as numbers of scaled units.
--
--   is_exponent_mark, is_point   the bytes `e` and `E`, and the byte `.`
--   DecimalParts    a decimal's sign, digits before and after the point, and exponent
--   decimal_parts   the parts of a token, split at its first `e` or `E` and its first point
--   is_decimal      the parts are those of a decimal
--   is_long         it has too many digits
--   exponent_of     the exponent without its sign
--   numerator, denominator   the absolute value as a fraction N / M
--   nearest         N / M in units, to the nearest whole number, halves upwards
--   in_range        a number with its sign, if it is within the limit
--   scaled_of token unit
--                   the number of scaled units that a decimal is, or why it is none. For the fraction N/M and `unit` U
--                   it is the decimal's sign times floor((2 N U + M) / (2 M))
use Rattle.std.specs.Prelude.{ℕ, ◌+◌, ◌*◌, ◌/◌, ◌^◌, ℤ, List, ◌++◌, Bool, not, ◌==◌, ◌||◌, ◌&&◌, nat_lt, length}
use Rattle.std.specs.Prelude.{Result, Ok, Err, if◌then◌else◌}
use Rattle.std.specs.List.{before_first, after_first, position_or_len}
use Rattle.std.specs.Str.Parse.{digits_value}
use Rattle.num_text.specs.declared.refusal.NumRefusal.{NumRefusal}
use Rattle.num_text.specs.declared.refusal.NumRefusal.TheVariants.{NotANumber, LongNumber, OutOfRange}
use Rattle.num_text.specs.WholeNumbers.{is_minus, behind_sign, are_digits, significant, signed}
use Rattle.num_text.specs.declared.decimal.TheConstants.{SCALED_LIMIT}

-- `e` or `E`
abbrev pub is_exponent_mark : ℕ → Bool
is_exponent_mark b = (b == 101) || (b == 69)

-- `.`
abbrev pub is_point : ℕ → Bool
is_point b = b == 46

-- a sign, the digits before and after a point, and an exponent with a sign of its own
pub record DecimalParts : Type 0 where
  pub is_negative : Bool
  pub whole : List ℕ
  pub fraction : List ℕ
  pub has_exponent : Bool
  pub exponent_is_negative : Bool
  pub exponent : List ℕ

-- the text after the sign and before the first `e` or `E`
abbrev pub mantissa_of : List ℕ → List ℕ
mantissa_of token = before_first is_exponent_mark (behind_sign token)

-- the text after the first `e` or `E`
abbrev pub exponent_text_of : List ℕ → List ℕ
exponent_text_of token = after_first is_exponent_mark (behind_sign token)

-- the parts of a token
abbrev pub decimal_parts : List ℕ → DecimalParts
decimal_parts token = record {
  is_negative = is_minus token;
  whole = before_first is_point (mantissa_of token);
  fraction = after_first is_point (mantissa_of token);
  has_exponent = nat_lt (position_or_len is_exponent_mark (behind_sign token)) (length (behind_sign token));
  exponent_is_negative = is_minus (exponent_text_of token);
  exponent = behind_sign (exponent_text_of token);
}

-- digits around the point, at least one of them, and digits in the exponent, if there is one
abbrev pub is_decimal : DecimalParts → Bool
is_decimal parts = are_digits (parts.whole ++ parts.fraction) && (not parts.has_exponent || are_digits parts.exponent)

-- over 30 digits, without the point, or over 4 in the exponent, both without leading zeros
abbrev pub is_long : DecimalParts → Bool
is_long parts =
    nat_lt 30 (length (significant (parts.whole ++ parts.fraction))) || nat_lt 4 (length (significant parts.exponent))

-- the exponent without its sign, 0 if there is none
abbrev pub exponent_of : DecimalParts → ℕ
exponent_of parts = if parts.has_exponent then digits_value 10 parts.exponent else 0

-- N of the absolute value N / M: the digits, times ten for each unit of a positive exponent
abbrev pub numerator : DecimalParts → ℕ
numerator parts =
    digits_value 10 (parts.whole ++ parts.fraction) * 10 ^ (if parts.exponent_is_negative then 0 else exponent_of parts)

-- M of the absolute value N / M: ten for each digit after the point and each unit of a negative exponent
abbrev pub denominator : DecimalParts → ℕ
denominator parts = 10 ^ (length parts.fraction + (if parts.exponent_is_negative then exponent_of parts else 0))

-- n / m in units, to the nearest whole number, halves upwards
abbrev pub nearest : ℕ → ℕ → ℕ → ℕ
nearest n m unit = (2 * n * unit + m) / (2 * m)

-- a number of units with its sign, rounded half away from zero, if it is within the limit
abbrev pub in_range : Bool → ℕ → Result ℤ NumRefusal
in_range is_negative n = if nat_lt SCALED_LIMIT n then Err OutOfRange else Ok (signed is_negative n)

-- the number of units in a token with these parts, or its first error
abbrev pub scaled_parts : DecimalParts → ℕ → Result ℤ NumRefusal
scaled_parts parts unit =
    if not (is_decimal parts) then Err NotANumber
    else (if is_long parts then Err LongNumber
    else in_range parts.is_negative (nearest (numerator parts) (denominator parts) unit))

-- the number of units in a token, or its first error
unfoldable pub scaled_of : List ℕ → ℕ → Result ℤ NumRefusal
scaled_of token unit = scaled_parts (decimal_parts token) unit
