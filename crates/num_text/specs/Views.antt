-- The view of the code's parts of a token.
use Rattle.num_text.specs.declared.decimal.DecimalParts.{DecimalParts}
use Rattle.num_text.specs.Decimals as decimals

-- the bytes that the parts point to
abbrev pub parts_view : DecimalParts → decimals.DecimalParts
parts_view parts = record {
  is_negative = parts.is_negative;
  whole = parts.whole.now;
  fraction = parts.fraction.now;
  has_exponent = parts.has_exponent;
  exponent_is_negative = parts.exponent_is_negative;
  exponent = parts.exponent.now;
}
