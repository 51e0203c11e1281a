-- What is printed is read again.
--
-- A printed number is a token of digits behind a sign or none (IsSigned, printed_pos and printed_neg): decimal digits, some
-- and at most 18, which are worth the number. Such a token is read as a whole number of that value (whole_of_signed). As a
-- decimal it has no point and no exponent, since no digit is one, so its parts are its digits alone (parts_are), and at the
-- unit 1 it scales to itself (scaled_plain).
use Rattle.std.proofs.Common.{◌≡◌, ℕ, suc, ◌+◌, ◌*◌, ◌/◌, ◌^◌, ◌<◌, ◌≤◌, Bool, true, false, cond, eqb, ltb, List, [], ◌∷◌, ◌++◌}
use Rattle.std.proofs.Common.{length, take, drop, refl, sym, ap, ◌∙◌, arith, ℤ, pos, negsuc, Result, Ok, decimal}
use Rattle.std.specs.Prelude.{unsigned_abs}
use Rattle.std.specs.Fmt.{signed_decimal}
use Rattle.std.specs.List.{list_all, position_or_len, before_first, after_first}
use Rattle.std.specs.Char.{is_ascii_digit}
use Rattle.std.specs.Str.Parse.{digits_value_after, AllDigits}
use Rattle.std.proofs.lemmas.Fmt.{decimal_is_IsNumeral, length-decimal-le}
use Rattle.std.proofs.lemmas.Str.Parse.{digit_at}
use Rattle.std.proofs.lemmas.Bool.{le-ltb}
use Rattle.std.proofs.lemmas.Bool.Decides.{nat_tests}
use Rattle.std.proofs.lemmas.List.{take_all, drop_all, append-nil}
use Rattle.std.proofs.lemmas.List.Sums.{position_or_len_is}
use Rattle.num_text.specs.declared.refusal.NumRefusal.{NumRefusal}
use Rattle.num_text.specs.WholeNumbers.{is_minus, behind_sign, are_digits, significant, signed, whole_of}
use Rattle.num_text.specs.Decimals.{is_exponent_mark, is_point, DecimalParts, decimal_parts, scaled_parts, scaled_of}
use Rattle.num_text.proofs.DigitLemmas.{digit_there, whole_is, significant_value}
use Rattle.num_text.specs.declared.decimal.TheConstants.{SCALED_LIMIT}

pub digit_is_one : (d : ℕ) → 48 ≤ d → d ≤ 57 → is_ascii_digit d ≡ true
digit_is_one d low high = grind (arith, nat_tests)

-- digits, as std says it and as is said here
digits_all : (ds : List ℕ) → AllDigits 10 ds → list_all is_ascii_digit ds ≡ true
digits_all [] all = refl
digits_all (d ∷ ds) all =
    let first = digit_at (d ∷ ds) 0 all (omega arith) in
    let digit : is_ascii_digit d ≡ true = digit_is_one d first.0 first.1 in
    rw (digit, digits_all ds all.1) refl

pub decimal_digits : (n : ℕ) → n < 2 ^ 64 → list_all is_ascii_digit (decimal n) ≡ true
decimal_digits n lt = digits_all (decimal n) ((decimal_is_IsNumeral n lt).0).1

no_plus : (d : ℕ) → 48 ≤ d → eqb d 43 ≡ false
no_plus d le = grind (arith, nat_tests)

no_minus : (d : ℕ) → 48 ≤ d → eqb d 45 ≡ false
no_minus d le = grind (arith, nat_tests)

pub unsigned : (ds : List ℕ) → list_all is_ascii_digit ds ≡ true → (behind_sign ds ≡ ds) × (is_minus ds ≡ false)
unsigned [] all = (refl, refl)
unsigned (d ∷ ds) all =
    let low = (digit_there (d ∷ ds) 0 all (omega arith)).0 in
    (rw (no_plus d low, no_minus d low) refl, no_minus d low)

significant_le : (ds : List ℕ) → length (significant ds) ≤ length ds
significant_le [] = omega arith
significant_le (d ∷ ds) = by_zero (eqb d 48) d ds (significant_le ds)
  where
    by_zero : (z : Bool) (d : ℕ) (ds : List ℕ) → length (significant ds) ≤ length ds
        → length (cond z (significant ds) (d ∷ ds)) ≤ length (d ∷ ds)
    by_zero true d ds le = omega (arith, le)
    by_zero false d ds le = omega arith

-- a token of digits behind a sign
pub record IsSigned (token ds : List ℕ) (is_negative : Bool) (n : ℕ) : Type 0 where
  pub rest : behind_sign token ≡ ds
  pub sign : is_minus token ≡ is_negative
  pub digits : list_all is_ascii_digit ds ≡ true
  pub some : 0 < length ds
  pub short : length ds ≤ 18
  pub value : digits_value_after 10 0 ds ≡ n

are_some : (ds : List ℕ) → 0 < length ds → list_all is_ascii_digit ds ≡ true → are_digits ds ≡ true
are_some [] lt all = absurd (omega arith)
are_some (d ∷ ds) lt all = rw all (grind (arith, nat_tests))

pub whole_of_signed : (token ds : List ℕ) (is_negative : Bool) (n : ℕ) → IsSigned token ds is_negative n
    → whole_of token ≡ Ok (signed is_negative n)
whole_of_signed token ds is_negative n s =
    let digits : are_digits (behind_sign token) ≡ true = ap are_digits s.rest ∙ are_some ds s.some s.digits in
    let short : length (significant (behind_sign token)) ≤ 18 =
    omega (arith, ap (λ (x : List ℕ). length (significant x)) s.rest, significant_le ds, s.short) in
    let value : n ≡ digits_value_after 10 0 (significant (behind_sign token)) =
    sym s.value ∙ sym (significant_value ds) ∙ ap (λ (x : List ℕ). digits_value_after 10 0 (significant x)) (sym s.rest) in
    whole_is token n digits short value ∙ ap (λ (m : Bool). read_as (signed m n)) s.sign
  where
    read_as : ℤ → Result ℤ NumRefusal
    read_as z = Ok z

no_mark : (d : ℕ) → 48 ≤ d → d ≤ 57 → is_exponent_mark d ≡ false
no_mark d low high = grind (arith, nat_tests)

no_point : (d : ℕ) → 48 ≤ d → d ≤ 57 → is_point d ≡ false
no_point d low high = grind (arith, nat_tests)

mark_none : (ds : List ℕ) → list_all is_ascii_digit ds ≡ true → position_or_len is_exponent_mark ds ≡ length ds
mark_none ds all =
    position_or_len_is is_exponent_mark ds (length ds) 0 (omega arith)
    (λ k lt. let d = digit_there ds k all lt in no_mark _ d.0 d.1) (λ lt. absurd (omega arith))

point_none : (ds : List ℕ) → list_all is_ascii_digit ds ≡ true → position_or_len is_point ds ≡ length ds
point_none ds all =
    position_or_len_is is_point ds (length ds) 0 (omega arith) (λ k lt. let d = digit_there ds k all lt in no_point _ d.0 d.1)
    (λ lt. absurd (omega arith))

abbrev plain_parts : Bool → List ℕ → DecimalParts
plain_parts is_negative ds = record {
  is_negative = is_negative;
  whole = ds;
  fraction = [];
  has_exponent = false;
  exponent_is_negative = false;
  exponent = [];
}

parts_plain : (ds : List ℕ) → list_all is_ascii_digit ds ≡ true
    → (before_first is_exponent_mark ds ≡ ds) × (after_first is_exponent_mark ds ≡ []) × (before_first is_point ds ≡ ds)
    × (after_first is_point ds ≡ [])
parts_plain ds all = (
  ap (λ (n : ℕ). take n ds) (mark_none ds all) ∙ take_all (length ds) ds (omega arith),
  ap (λ (n : ℕ). drop (n + 1) ds) (mark_none ds all) ∙ drop_all (length ds + 1) ds (omega arith),
  ap (λ (n : ℕ). take n ds) (point_none ds all) ∙ take_all (length ds) ds (omega arith),
  ap (λ (n : ℕ). drop (n + 1) ds) (point_none ds all) ∙ drop_all (length ds + 1) ds (omega arith),
)

parts_from : Bool → List ℕ → DecimalParts
parts_from is_negative body = record {
  is_negative = is_negative;
  whole = before_first is_point (before_first is_exponent_mark body);
  fraction = after_first is_point (before_first is_exponent_mark body);
  has_exponent = ltb (position_or_len is_exponent_mark body) (length body);
  exponent_is_negative = is_minus (after_first is_exponent_mark body);
  exponent = behind_sign (after_first is_exponent_mark body);
}

parts_are : (token ds : List ℕ) (is_negative : Bool) (n : ℕ) → IsSigned token ds is_negative n
    → decimal_parts token ≡ plain_parts is_negative ds
unfolding parts_from
parts_are token ds is_negative n s =
    let p = parts_plain ds s.digits in
    let marked : ltb (position_or_len is_exponent_mark ds) (length ds) ≡ false =
    rw (mark_none ds s.digits) (le-ltb (length ds) (length ds) (omega arith)) in
    ap (λ (m : Bool). parts_from m (behind_sign token)) s.sign ∙ ap (parts_from is_negative) s.rest
    ∙ rw (marked, p.1, p.0, p.2, p.3) refl

one_unit : (n : ℕ) → (2 * (n * 1) * 1 + 1) / (2 * 1) ≡ n
one_unit n = omega arith

scaled_plain : (ds : List ℕ) (is_negative : Bool) (n : ℕ) → list_all is_ascii_digit ds ≡ true → 0 < length ds → length ds ≤ 18
    → digits_value_after 10 0 ds ≡ n → n ≤ SCALED_LIMIT
    → scaled_parts (plain_parts is_negative ds) 1 ≡ Ok (signed is_negative n)
scaled_plain ds is_negative n all some short value le =
    let digits : are_digits (ds ++ []) ≡ true = ap are_digits (append-nil ds) ∙ are_some ds some all in
    let long : ltb 30 (length (significant (ds ++ []))) ≡ false =
    ap (λ (x : List ℕ). ltb 30 (length (significant x))) (append-nil ds)
    ∙ le-ltb 30 (length (significant ds)) (omega (arith, significant_le ds)) in
    let number : digits_value_after 10 0 (ds ++ []) ≡ n = ap (digits_value_after 10 0) (append-nil ds) ∙ value in
    rw (digits, long, number, one_unit n, le-ltb SCALED_LIMIT n le) refl

pub scaled_of_signed : (token ds : List ℕ) (is_negative : Bool) (n : ℕ) → IsSigned token ds is_negative n → n ≤ SCALED_LIMIT
    → scaled_of token 1 ≡ Ok (signed is_negative n)
unfolding scaled_of
scaled_of_signed token ds is_negative n s le =
    ap (λ (p : DecimalParts). scaled_parts p 1) (parts_are token ds is_negative n s)
    ∙ scaled_plain ds is_negative n s.digits s.some s.short s.value le

printed_pos : (n : ℕ) → n < 10 ^ 18 → IsSigned (decimal n) (decimal n) false n
printed_pos n lt =
    let all = decimal_digits n (omega arith) in
    let numeral = decimal_is_IsNumeral n (omega arith) in
    let plain = unsigned (decimal n) all in
    record {
      rest = plain.0;
      sign = plain.1;
      digits = all;
      some = (numeral.0).0;
      short = length-decimal-le 18 n (omega arith) lt (omega arith);
      value = numeral.1;
    }

printed_neg : (n : ℕ) → n < 10 ^ 18 → IsSigned (45 ∷ decimal n) (decimal n) true n
printed_neg n lt =
    let all = decimal_digits n (omega arith) in
    let numeral = decimal_is_IsNumeral n (omega arith) in
    record {
      rest = refl;
      sign = refl;
      digits = all;
      some = (numeral.0).0;
      short = length-decimal-le 18 n (omega arith) lt (omega arith);
      value = numeral.1;
    }

-- a printed number is read again
pub whole_of-signed_decimal : (z : ℤ) → unsigned_abs z < 10 ^ 18 → whole_of (signed_decimal z) ≡ Ok z
whole_of-signed_decimal (pos n) lt = whole_of_signed (decimal n) (decimal n) false n (printed_pos n lt)
whole_of-signed_decimal (negsuc n) lt =
    whole_of_signed (45 ∷ decimal (suc n)) (decimal (suc n)) true (suc n) (printed_neg (suc n) lt)

pub scaled_of-signed_decimal : (z : ℤ) → unsigned_abs z ≤ SCALED_LIMIT → scaled_of (signed_decimal z) 1 ≡ Ok z
scaled_of-signed_decimal (pos n) le = scaled_of_signed (decimal n) (decimal n) false n (printed_pos n (omega arith)) le
scaled_of-signed_decimal (negsuc n) le =
    scaled_of_signed (45 ∷ decimal (suc n)) (decimal (suc n)) true (suc n) (printed_neg (suc n) (omega arith)) le
