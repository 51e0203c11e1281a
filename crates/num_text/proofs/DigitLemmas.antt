-- Digits, one more at a time.
use Rattle.std.proofs.Common.{◌≡◌, ℕ, zero, suc, ◌+◌, ◌-◌, ◌*◌, ◌^◌, ◌<◌, ◌≤◌, Bool, true, false, cond, eqb, leb, List}
use Rattle.std.proofs.Common.{[], ◌∷◌, ◌++◌, length, get_or, take, refl, sym, ap, ◌∙◌, arith, ℤ, Result, Ok, unsigned_abs}
use Rattle.std.specs.List.{list_all}
use Rattle.std.specs.Char.{is_ascii_digit, digit_value}
use Rattle.std.specs.Str.Parse.{digits_value_after}
use Rattle.std.proofs.lemmas.Bool.{le-ltb, lt-ltb, eqb-true, and_parts}
use Rattle.std.proofs.lemmas.Bool.Decides.{nat_tests}
use Rattle.std.proofs.lemmas.List.{take_more}
use Rattle.std.proofs.Math.Nat.{mul-le-mul_left, mul-le-mul_right, mul_assoc, pow-succ', le_trans, lt_of_lt_of_le, one-le-pow}
use Rattle.std.proofs.Math.Nat.{pow-le-pow_right}
use Rattle.num_text.specs.declared.refusal.NumRefusal.{NumRefusal}
use Rattle.num_text.specs.WholeNumbers.{significant, behind_sign, are_digits, is_minus, signed, whole_of}

pub digit_is : (b : ℕ) → 48 ≤ b → b ≤ 57 → digit_value b ≡ b - 48
digit_is b low high = rw (le-ltb b 48 low, lt-ltb b 58 (omega arith)) refl

pub value_after_more : (start : ℕ) (ds : List ℕ) (d : ℕ)
    → digits_value_after 10 start (ds ++ d ∷ []) ≡ digits_value_after 10 start ds * 10 + digit_value d
value_after_more start [] d = refl
value_after_more start (x ∷ ds) d = value_after_more (start * 10 + digit_value x) ds d

abbrev pub done : ℤ → Result ℤ NumRefusal
done z = Ok z

pub digit_bounds : (b : ℕ) → is_ascii_digit b ≡ true → (48 ≤ b) × (b ≤ 57)
digit_bounds b e =
    let both = and_parts (leb 48 b) (leb b 57) e in
    (grind (arith, nat_tests, both.0), grind (arith, nat_tests, both.1))

pub digit_there : (ds : List ℕ) (i : ℕ) → list_all is_ascii_digit ds ≡ true → i < length ds
    → (48 ≤ get_or ds i 0) × (get_or ds i 0 ≤ 57)
digit_there [] i all lt = absurd (omega arith)
digit_there (d ∷ ds) zero all lt = digit_bounds d (and_parts (is_ascii_digit d) (list_all is_ascii_digit ds) all).0
digit_there (d ∷ ds) (suc i) all lt =
    digit_there ds i (and_parts (is_ascii_digit d) (list_all is_ascii_digit ds) all).1 (omega arith)

-- one factor of ten taken out of a power
pub ten_out : (v n : ℕ) → v * 10 ^ suc n ≡ v * 10 * 10 ^ n
ten_out v n = ap (λ (p : ℕ). v * p) (pow-succ' 10 n) ∙ sym (mul_assoc v 10 (10 ^ n))

room_step : (v d n limit : ℕ) → d < 10 → (v + 1) * 10 ^ suc n ≤ limit → (v * 10 + d + 1) * 10 ^ n ≤ limit
room_step v d n limit small room =
    let more : v * 10 + d + 1 ≤ (v + 1) * 10 = omega arith in
    let times : (v * 10 + d + 1) * 10 ^ n ≤ (v + 1) * 10 * 10 ^ n = mul-le-mul_right (10 ^ n) more in
    le_trans times (rw ten_out at room)

room_fits : (v n limit : ℕ) → (v + 1) * 10 ^ suc n ≤ limit → (v + 1) * 10 ≤ limit
room_fits v n limit room =
    let one : 1 ≤ 10 ^ n = one-le-pow n 10 (omega arith) in
    let times : (v + 1) * 10 * 1 ≤ (v + 1) * 10 * 10 ^ n = mul-le-mul_left ((v + 1) * 10) one in
    let whole : (v + 1) * 10 * 10 ^ n ≤ limit = rw ten_out at room in
    omega (arith, times, whole)

pub record IsValue (start : ℕ) (digits : List ℕ) (i v : ℕ) : Type 0 where
  pub is : v ≡ digits_value_after 10 start (take i digits)
  pub room : (v + 1) * 10 ^ (length digits - i) ≤ 10 ^ 30

pub value_room : (start : ℕ) (digits : List ℕ) (i v : ℕ) → i < length digits → IsValue start digits i v → (v + 1) * 10 ≤ 10 ^ 30
value_room start digits i v lt so_far =
    let n : length digits - i ≡ suc (length digits - (i + 1)) = omega arith in
    room_fits v (length digits - (i + 1)) (10 ^ 30) (rw n at so_far.room)

pub one_value_more : (start : ℕ) (digits : List ℕ) (i v d : ℕ) → i < length digits → list_all is_ascii_digit digits ≡ true
    → d ≡ get_or digits i 0 - 48 → IsValue start digits i v → IsValue start digits (i + 1) (v * 10 + d)
one_value_more start digits i v d lt all is so_far =
    let n : length digits - i ≡ suc (length digits - (i + 1)) = omega arith in
    let bounds = digit_there digits i all lt in
    let small : d < 10 = omega (arith, is, bounds.0, bounds.1) in
    let digit : d ≡ digit_value (get_or digits i 0) = is ∙ sym (digit_is (get_or digits i 0) bounds.0 bounds.1) in
    record {
      is =
          ap (λ (k : ℕ). k * 10 + d) so_far.is ∙ ap (λ (k : ℕ). digits_value_after 10 start (take i digits) * 10 + k) digit
          ∙ sym (value_after_more start (take i digits) (get_or digits i 0))
          ∙ ap (digits_value_after 10 start) (sym (take_more digits i 0 lt));
      room = room_step v d (length digits - (i + 1)) (10 ^ 30) small (rw n at so_far.room);
    }

pub value_below : (start : ℕ) (ds : List ℕ) → list_all is_ascii_digit ds ≡ true
    → digits_value_after 10 start ds < (start + 1) * 10 ^ length ds
value_below start [] all = omega arith
value_below start (d ∷ ds) all =
    let both = and_parts (is_ascii_digit d) (list_all is_ascii_digit ds) all in
    let bounds = digit_bounds d both.0 in
    let is : digit_value d ≡ d - 48 = digit_is d bounds.0 bounds.1 in
    let more : start * 10 + digit_value d + 1 ≤ (start + 1) * 10 = omega (arith, is, bounds.0, bounds.1) in
    let rest : digits_value_after 10 (start * 10 + digit_value d) ds < (start * 10 + digit_value d + 1) * 10 ^ length ds =
    value_below (start * 10 + digit_value d) ds both.1 in
    let times : (start * 10 + digit_value d + 1) * 10 ^ length ds ≤ (start + 1) * 10 * 10 ^ length ds =
    mul-le-mul_right (10 ^ length ds) more in
    lt_of_lt_of_le rest (rw ten_out times)

digits_by_zero : (z : Bool) (d : ℕ) (ds : List ℕ) → list_all is_ascii_digit (significant ds) ≡ true
    → list_all is_ascii_digit (d ∷ ds) ≡ true → list_all is_ascii_digit (cond z (significant ds) (d ∷ ds)) ≡ true
digits_by_zero true d ds rest all = rest
digits_by_zero false d ds rest all = all

pub significant_digits : (ds : List ℕ) → list_all is_ascii_digit ds ≡ true → list_all is_ascii_digit (significant ds) ≡ true
significant_digits [] all = refl
significant_digits (d ∷ ds) all =
    digits_by_zero (eqb d 48) d ds (significant_digits ds (and_parts (is_ascii_digit d) (list_all is_ascii_digit ds) all).1) all

value_by_zero : (z : Bool) (d : ℕ) (ds : List ℕ) → eqb d 48 ≡ z
    → digits_value_after 10 0 (significant ds) ≡ digits_value_after 10 0 ds
    → digits_value_after 10 0 (cond z (significant ds) (d ∷ ds)) ≡ digits_value_after 10 0 (d ∷ ds)
value_by_zero true d ds e rest =
    rest ∙ sym (ap (λ (b : ℕ). digits_value_after 10 (0 * 10 + digit_value b) ds) (eqb-true d 48 e))
value_by_zero false d ds e rest = refl

-- leading zeros change nothing
pub significant_value : (ds : List ℕ) → digits_value_after 10 0 (significant ds) ≡ digits_value_after 10 0 ds
significant_value [] = refl
significant_value (d ∷ ds) = value_by_zero (eqb d 48) d ds refl (significant_value ds)

-- a number of at most so many digits
pub value_small : (k : ℕ) (ds : List ℕ) → length ds ≤ k → list_all is_ascii_digit ds ≡ true
    → digits_value_after 10 0 ds < 10 ^ k
value_small k ds le all = omega (arith, value_below 0 ds all, pow-le-pow_right {n = 10} (omega arith) le)

pub room_for : (k : ℕ) (ds : List ℕ) → length ds ≤ k → k ≤ 30 → (0 + 1) * 10 ^ length ds ≤ 10 ^ 30
room_for k ds le small =
    let short : length ds ≤ 30 = omega arith in
    omega (arith, pow-le-pow_right {n = 10} (omega arith) short)

pub whole_is : (token : List ℕ) (v : ℕ) → are_digits (behind_sign token) ≡ true → length (significant (behind_sign token)) ≤ 18
    → v ≡ digits_value_after 10 0 (significant (behind_sign token)) → whole_of token ≡ Ok (signed (is_minus token) v)
unfolding whole_of
whole_is token v digits short is =
    rw (digits, le-ltb 18 (length (significant (behind_sign token))) short)
    (ap (λ (n : ℕ). done (signed (is_minus token) n)) (sym (is ∙ significant_value (behind_sign token))))

pub taken_digits : (digits ds : List ℕ) → ds ≡ significant digits → are_digits digits ≡ true → list_all is_ascii_digit ds ≡ true
taken_digits digits ds is all =
    rw is (significant_digits digits (and_parts (leb 1 (length digits)) (list_all is_ascii_digit digits) all).1)

-- a sign does not change a number's size
pub signed_size : (is_negative : Bool) (n : ℕ) → unsigned_abs (signed is_negative n) ≡ n
signed_size false n = refl
signed_size true zero = refl
signed_size true (suc n) = refl
