-- The nearest number of units.
--
-- Digits in two runs, before and behind the point, are one number: if the first has zeros alone, the digits that matter are
-- those of the second, else those of the first and all of the second (none_significant, some_significant); from this follow
-- values, how many digits matter, and that each step has room (value_of_second to second_room, many_second to some_short). A
-- decimal is its digits times 10^up over 10^down: the common power goes out, and the nearest number is that with one power
-- left, above or below (nearest_up, nearest_down). A power that is too large gives 0, or is out of range (few_none,
-- far_out).
use Rattle.std.proofs.Common.{◌≡◌, ℕ, ◌+◌, ◌-◌, ◌*◌, ◌/◌, ◌^◌, ◌<◌, ◌≤◌, Bool, true, false, not, cond, eqb, ltb, leb, ◌||◌}
use Rattle.std.proofs.Common.{List, [], ◌∷◌, ◌++◌, length, refl, sym, ap, ◌∙◌, arith, inl, inr, None}
use Rattle.std.specs.List.{list_all}
use Rattle.std.specs.Char.{is_ascii_digit, digit_value}
use Rattle.std.specs.Str.Parse.{digits_value_after}
use Rattle.std.proofs.lemmas.Bool.{le-ltb, lt-ltb, ltb-false, cases_lt, cond-true, and_parts, or_parts}
use Rattle.std.proofs.lemmas.Nat.{pow-add}
use Rattle.std.proofs.lemmas.List.{length-append}
use Rattle.std.proofs.lemmas.List.Folds.{list_all-append}
use Rattle.std.proofs.Math.Nat.{mul-le-mul_left, mul-le-mul_right, mul_assoc, one-le-pow, pow-le-pow_right, mul-div-mul_right}
use Rattle.std.proofs.Math.Nat.{div-eq_of_lt, le_trans}
use Rattle.num_text.specs.WholeNumbers.{significant, are_digits}
use Rattle.num_text.specs.Decimals.{nearest, DecimalParts, is_decimal, is_long, exponent_of}
use Rattle.num_text.specs.Steps.{within_limit}
use Rattle.num_text.proofs.DigitLemmas.{value_below, value_small, significant_value, significant_digits}
use Rattle.num_text.specs.declared.decimal.TheConstants.{SCALED_LIMIT}

pub marked_digits : (m d : Bool) → (not m || d) ≡ true → m ≡ true → d ≡ true
marked_digits true d e m = e
marked_digits false d e m = cc

-- ---- digits of two parts

none_by_zero : (z : Bool) (x : ℕ) (xs ys : List ℕ) → length (cond z (significant xs) (x ∷ xs)) ≡ 0
    → (length (significant xs) ≡ 0 → significant (xs ++ ys) ≡ significant ys)
    → cond z (significant (xs ++ ys)) (x ∷ (xs ++ ys)) ≡ significant ys
none_by_zero true x xs ys e rest = rest e
none_by_zero false x xs ys e rest = absurd (omega arith)

pub none_significant : (xs ys : List ℕ) → length (significant xs) ≡ 0 → significant (xs ++ ys) ≡ significant ys
none_significant [] ys e = refl
none_significant (x ∷ xs) ys e = none_by_zero (eqb x 48) x xs ys e (none_significant xs ys)

some_by_zero : (z : Bool) (x : ℕ) (xs ys : List ℕ) → 0 < length (cond z (significant xs) (x ∷ xs))
    → (0 < length (significant xs) → significant (xs ++ ys) ≡ significant xs ++ ys)
    → cond z (significant (xs ++ ys)) (x ∷ (xs ++ ys)) ≡ cond z (significant xs) (x ∷ xs) ++ ys
some_by_zero true x xs ys lt rest = rest lt
some_by_zero false x xs ys lt rest = refl

pub some_significant : (xs ys : List ℕ) → 0 < length (significant xs) → significant (xs ++ ys) ≡ significant xs ++ ys
some_significant [] ys lt = absurd (omega arith)
some_significant (x ∷ xs) ys lt = some_by_zero (eqb x 48) x xs ys lt (some_significant xs ys)

value_append : (start : ℕ) (xs ys : List ℕ)
    → digits_value_after 10 start (xs ++ ys) ≡ digits_value_after 10 (digits_value_after 10 start xs) ys
value_append start [] ys = refl
value_append start (x ∷ xs) ys = value_append (start * 10 + digit_value x) xs ys

pub record TwoParts (xs ys : List ℕ) : Type 0 where
  pub first : list_all is_ascii_digit xs ≡ true
  pub second : list_all is_ascii_digit ys ≡ true

pub two_parts : (xs ys : List ℕ) → list_all is_ascii_digit (xs ++ ys) ≡ true → TwoParts xs ys
two_parts xs ys all =
    let both =
    and_parts (list_all is_ascii_digit xs) (list_all is_ascii_digit ys) (sym (list_all-append is_ascii_digit xs ys) ∙ all) in
    record { first = both.0; second = both.1 }

pub value_of_second : (xs ys : List ℕ) → length (significant xs) ≡ 0
    → digits_value_after 10 0 (significant ys) ≡ digits_value_after 10 0 (xs ++ ys)
value_of_second xs ys e = ap (digits_value_after 10 0) (sym (none_significant xs ys e)) ∙ significant_value (xs ++ ys)

pub value_of_both : (xs ys : List ℕ) → 0 < length (significant xs)
    → digits_value_after 10 (digits_value_after 10 0 (significant xs)) ys ≡ digits_value_after 10 0 (xs ++ ys)
value_of_both xs ys lt =
    sym (value_append 0 (significant xs) ys) ∙ ap (digits_value_after 10 0) (sym (some_significant xs ys lt))
    ∙ significant_value (xs ++ ys)

pub value_fits : (ds : List ℕ) → list_all is_ascii_digit ds ≡ true → length (significant ds) ≤ 30
    → digits_value_after 10 0 ds < 10 ^ 30
value_fits ds all le = omega (arith, significant_value ds, value_small 30 (significant ds) le (significant_digits ds all))

pub second_room : (xs ys : List ℕ) → list_all is_ascii_digit xs ≡ true → 0 < length (significant xs)
    → length (significant (xs ++ ys)) ≤ 30 → (digits_value_after 10 0 (significant xs) + 1) * 10 ^ length ys ≤ 10 ^ 30
second_room xs ys all lt short =
    let below : digits_value_after 10 0 (significant xs) + 1 ≤ 10 ^ length (significant xs) =
    omega (arith, value_below 0 (significant xs) (significant_digits xs all)) in
    let times : (digits_value_after 10 0 (significant xs) + 1) * 10 ^ length ys
    ≤ 10 ^ length (significant xs) * 10 ^ length ys = mul-le-mul_right (10 ^ length ys) below in
    let len : length (significant xs) + length ys ≤ 30 =
    omega (arith, short, ap length (some_significant xs ys lt), length-append (significant xs) ys) in
    let powers : 10 ^ length (significant xs) * 10 ^ length ys ≤ 10 ^ 30 =
    rw (← pow-add 10 (length (significant xs)) (length ys)) (pow-le-pow_right {n = 10} (omega arith) len) in
    le_trans times powers

-- ---- to the nearest unit

pub power_fits : (k m : ℕ) → k ≤ m → 10 ^ k ≤ 10 ^ m
power_fits k m le = pow-le-pow_right {n = 10} (omega arith) le

pub power_some : (k : ℕ) → 1 ≤ 10 ^ k
power_some k = one-le-pow k 10 (omega arith)

pub few_none : (units k : ℕ) → units < 10 ^ 36 → 36 < k → (2 * units + 10 ^ k) / (2 * 10 ^ k) ≡ 0
few_none units k small lt = let large : 10 ^ 37 ≤ 10 ^ k = power_fits 37 k (omega arith) in div-eq_of_lt (omega arith)

pub many_out : (units k : ℕ) → SCALED_LIMIT < units → SCALED_LIMIT < units * 10 ^ k
many_out units k lt = let more : units * 1 ≤ units * 10 ^ k = mul-le-mul_left units (power_some k) in omega (arith, more)

pub far_out : (units k : ℕ) → 0 < units → 7 < k → SCALED_LIMIT < units * 10 ^ k
far_out units k some lt =
    let large : 10 ^ 8 ≤ 10 ^ k = power_fits 8 k (omega arith) in
    let more : units * 10 ^ 8 ≤ units * 10 ^ k = mul-le-mul_left units large in
    omega (arith, more)

half_of : (x : ℕ) → (2 * x + 1) / 2 ≡ x
half_of x = omega arith

regroup_up : (v u p m : ℕ) → 2 * (v * (p * m)) * u + m ≡ (2 * (v * u * p) + 1) * m
regroup_up v u p m = grind arith

pub nearest_up : (v u up down : ℕ) → down ≤ up → v * u * 10 ^ (up - down) ≡ nearest (v * 10 ^ up) (10 ^ down) u
nearest_up v u up down le =
    let k : up ≡ up - down + down = omega arith in
    let power : 10 ^ up ≡ 10 ^ (up - down) * 10 ^ down = ap (λ (n : ℕ). 10 ^ n) k ∙ pow-add 10 (up - down) down in
    let is : nearest (v * 10 ^ up) (10 ^ down) u ≡ v * u * 10 ^ (up - down) =
    ap (λ (p : ℕ). (2 * (v * p) * u + 10 ^ down) / (2 * 10 ^ down)) power
    ∙ ap (λ (n : ℕ). n / (2 * 10 ^ down)) (regroup_up v u (10 ^ (up - down)) (10 ^ down))
    ∙ mul-div-mul_right (2 * (v * u * 10 ^ (up - down)) + 1) 2 (power_some down)
    ∙ half_of (v * u * 10 ^ (up - down)) in
    sym is

regroup_down : (v u p m : ℕ) → 2 * (v * m) * u + p * m ≡ (2 * (v * u) + p) * m
regroup_down v u p m = grind arith

pub nearest_down : (v u up down : ℕ) → up ≤ down
    → (2 * (v * u) + 10 ^ (down - up)) / (2 * 10 ^ (down - up)) ≡ nearest (v * 10 ^ up) (10 ^ down) u
nearest_down v u up down le =
    let k : down ≡ down - up + up = omega arith in
    let power : 10 ^ down ≡ 10 ^ (down - up) * 10 ^ up = ap (λ (n : ℕ). 10 ^ n) k ∙ pow-add 10 (down - up) up in
    let is : nearest (v * 10 ^ up) (10 ^ down) u ≡ (2 * (v * u) + 10 ^ (down - up)) / (2 * 10 ^ (down - up)) =
    ap (λ (p : ℕ). (2 * (v * 10 ^ up) * u + p) / (2 * p)) power
    ∙ ap (λ (n : ℕ). n / (2 * (10 ^ (down - up) * 10 ^ up))) (regroup_down v u (10 ^ (down - up)) (10 ^ up))
    ∙ ap (λ (n : ℕ). (2 * (v * u) + 10 ^ (down - up)) * 10 ^ up / n) (sym (mul_assoc 2 (10 ^ (down - up)) (10 ^ up)))
    ∙ mul-div-mul_right (2 * (v * u) + 10 ^ (down - up)) (2 * 10 ^ (down - up)) (power_some up) in
    sym is

same_lt : (a b : ℕ) → a ≤ 30 → ltb (30 - a) b ≡ ltb 30 (a + b)
same_lt a b le =
    elim (cases_lt 30 (a + b)) [
      | inl lt ↦ lt-ltb (30 - a) b (omega arith) ∙ sym (lt-ltb 30 (a + b) lt)
      | inr ge ↦ le-ltb (30 - a) b (omega arith) ∙ sym (le-ltb 30 (a + b) ge)
    ]

pub many_second : (xs ys first second : List ℕ) → first ≡ significant xs → length first ≡ 0 → second ≡ significant ys
    → ltb 30 (length second) ≡ ltb 30 (length (significant (xs ++ ys)))
many_second xs ys first second f e s =
    ap (λ (ds : List ℕ). ltb 30 (length ds)) (s ∙ sym (none_significant xs ys (sym (ap length f) ∙ e)))

both_length : (xs ys first : List ℕ) → first ≡ significant xs → 0 < length first
    → length (significant (xs ++ ys)) ≡ length first + length ys
both_length xs ys first f lt =
    let some : 0 < length (significant xs) = omega (arith, ap length f) in
    omega (arith, ap length (some_significant xs ys some), length-append (significant xs) ys, ap length f)

pub many_first : (xs ys first : List ℕ) → first ≡ significant xs → 0 < length first → 30 < length first
    → ltb 30 (length first) ≡ ltb 30 (length (significant (xs ++ ys)))
many_first xs ys first f some lt =
    lt-ltb 30 (length first) lt
    ∙ sym (lt-ltb 30 (length (significant (xs ++ ys))) (omega (arith, both_length xs ys first f some)))

pub many_both : (xs ys first : List ℕ) → first ≡ significant xs → 0 < length first → length first ≤ 30
    → ltb (30 - length first) (length ys) ≡ ltb 30 (length (significant (xs ++ ys)))
many_both xs ys first f some le = same_lt (length first) (length ys) le ∙ ap (ltb 30) (sym (both_length xs ys first f some))

pub none_short : (xs ys : List ℕ) → length (significant xs) ≡ 0 → length (significant (xs ++ ys)) ≤ 30
    → length (significant ys) ≤ 30
none_short xs ys e le = omega (arith, le, ap length (none_significant xs ys e))

pub some_short : (xs ys : List ℕ) → 0 < length (significant xs) → length (significant (xs ++ ys)) ≤ 30
    → length (significant xs) ≤ 30
some_short xs ys lt le = omega (arith, le, ap length (some_significant xs ys lt), length-append (significant xs) ys)

pub within_limit_none : (n : ℕ) → SCALED_LIMIT < n → within_limit n ≡ None
within_limit_none n lt = rw (lt-ltb SCALED_LIMIT n lt) refl

-- what an exponent is, if there is one
pub exponent_digits : (p : DecimalParts) → is_decimal p ≡ true → p.has_exponent ≡ true
    → list_all is_ascii_digit p.exponent ≡ true
exponent_digits p decimal marked =
    let both = and_parts (are_digits (p.whole ++ p.fraction)) (not p.has_exponent || are_digits p.exponent) decimal in
    (and_parts (leb 1 (length p.exponent)) (list_all is_ascii_digit p.exponent)
    (marked_digits p.has_exponent (are_digits p.exponent) both.1 marked)).1

pub exponent_short : (p : DecimalParts) → is_long p ≡ false → length (significant p.exponent) ≤ 4
exponent_short p short =
    ltb-false 4 (length (significant p.exponent))
    (or_parts (ltb 30 (length (significant (p.whole ++ p.fraction)))) (ltb 4 (length (significant p.exponent))) short).1

pub exponent_is : (p : DecimalParts) → p.has_exponent ≡ true → digits_value_after 10 0 (significant p.exponent) ≡ exponent_of p
exponent_is p marked =
    significant_value p.exponent ∙ sym (cond-true p.has_exponent (digits_value_after 10 0 p.exponent) 0 marked)
