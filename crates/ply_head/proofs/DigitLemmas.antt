-- One more digit.
use Rattle.std.proofs.Common.{◌≡◌, ℕ, ◌+◌, ◌-◌, ◌*◌, ◌^◌, ◌<◌, ◌≤◌, true, List, length, get_or, take, refl, sym, ap, ◌∙◌, arith}
use Rattle.std.proofs.Common.{add-one}
use Rattle.std.specs.List.{list_all}
use Rattle.std.specs.Char.{is_ascii_digit}
use Rattle.std.specs.Str.Parse.{digits_value}
use Rattle.std.proofs.lemmas.List.Folds.{list_all_more}
use Rattle.std.proofs.lemmas.Int.Digits.{digits_value_more}
use Rattle.num_text.proofs.DigitLemmas.{digit_is}
use Rattle.num_text.proofs.PrintedLemmas.{digit_is_one}

power_more : (v d i : ℕ) → v < 10 ^ i → d < 10 → v * 10 + d < 10 ^ (i + 1)
power_more v d i below small = rw add-one (omega arith)

pub record IsDigits (word : List ℕ) (i so_far : ℕ) : Type 0 where
  pub value : so_far ≡ digits_value 10 (take i word)
  pub digits : list_all is_ascii_digit (take i word) ≡ true
  pub below : so_far < 10 ^ i

pub digits_more : (word : List ℕ) (i value : ℕ) → i < length word → 48 ≤ get_or word i 0 → get_or word i 0 ≤ 57
    → IsDigits word i value → IsDigits word (i + 1) (value * 10 + (get_or word i 0 - 48))
digits_more word i value lt low high so_far = record {
  value =
      ap (λ (v : ℕ). v * 10 + (get_or word i 0 - 48)) so_far.value
      ∙ ap (λ (d : ℕ). digits_value 10 (take i word) * 10 + d) (sym (digit_is (get_or word i 0) low high))
      ∙ sym (digits_value_more 10 word i lt);
  digits = list_all_more is_ascii_digit word i 0 lt ∙ rw (so_far.digits, digit_is_one (get_or word i 0) low high) refl;
  below = power_more value (get_or word i 0 - 48) i so_far.below (omega arith);
}
