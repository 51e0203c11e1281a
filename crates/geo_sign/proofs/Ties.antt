-- That the term with the greatest number gives a sum its sign, so that it decides a tie.
--
--   Worth w i s v    v is a sum that a term with number i and sign s leads: zero where s is Zero, and else of that sign and
--                    of about the size of the i-th power of the base, w being what the coefficients of its terms come to
--   Led w t v        the same of a term
--   ties a b c d p   the five terms of the power beside the plain power
use Rattle.std.proofs.Common.{IsTrue, IsFalse, ◌↔◌, true≢false, ℕ, zero, suc, ◌+◌, ◌*◌, ◌<◌, ◌≤◌, ◌^◌, ◌≡◌, ◌≢◌, refl, ap, sym}
use Rattle.std.proofs.Common.{subst, ◌∙◌, arith, Bool, true, false, cond, nat_lt, ℤ, pos, negsuc, neg_ℤ, ◌+ℤ◌, ◌*ℤ◌}
use Rattle.std.proofs.Common.{unsigned_abs, add_comm, suc-mul, mul-le-mul_right, ◌∷◌, [], ◌<ℤ◌}
use Rattle.std.proofs.lemmas.Bool.{ltb-true, ltb-false}
use Rattle.std.proofs.lemmas.Int.{ints}
use Rattle.std.proofs.Math.Nat.{pow-le-pow_right, one-le-pow, mul-lt-mul_of_pos_right}
use lib.IntN.{+ℤ_comm, zero-*ℤ}
use Rattle.geo_sign.specs.Polynomial.{Polynomial, variable, sum, product}
use Rattle.geo_sign.proofs.Ring.{ring}
use Rattle.geo_sign.specs.declared.sign.Sign.{Sign}
use Rattle.geo_sign.specs.declared.sign.Sign.TheVariants.{Neg, Zero, Pos}
use Rattle.geo_sign.specs.Point.{Point, IsWithin}
use Rattle.geo_sign.specs.Orientation.{orientation}
use Rattle.geo_sign.specs.Power.{power, plain_power}
use Rattle.geo_sign.specs.Signs.{sign_of, first_sign}
use Rattle.geo_sign.proofs.Bounds.{orientation_bound}
use Rattle.geo_sign.proofs.Digits.{sign_above, sign_below, leading_digit}
use Rattle.geo_sign.proofs.Written.{Symbols, square', orientation', power', coordinates, A, B, C, D, P}
use Rattle.geo_sign.specs.Terms.{Term, leading_of, leading_term, is_below_zero, term, deciding_term}
use Rattle.geo_sign.specs.Conflict.{AreApart, AreBelow}
use Rattle.geo_sign.specs.Tie.{tied_power}
use Rattle.geo_sign.proofs.Sizes.{Size, size_more, size_plus, size_minus, power_above}
use Rattle.geo_sign.specs.declared.point.TheConstants.{BOX_LIMIT}

record Above (w i : ℕ) (v : ℤ) : Type 0 where
  pub u : ℕ
  pub is : v ≡ pos u
  pub size : Size (2 ^ 80) w ((2 ^ 80) ^ i) u

record Below (w i : ℕ) (v : ℤ) : Type 0 where
  pub u : ℕ
  pub is : v ≡ neg_ℤ (pos u)
  pub size : Size (2 ^ 80) w ((2 ^ 80) ^ i) u

abbrev Worth : ℕ → ℕ → Sign → ℤ → Type 0
Worth w i Neg v = Below w i v
Worth w i Zero v = v ≡ pos 0
Worth w i Pos v = Above w i v

lower : (i j : ℕ) → j < i → (2 ^ 80) ^ j ≤ (2 ^ 80) ^ i
lower i j h = pow-le-pow_right (omega arith) (omega arith)

-- the higher of two terms leads
leads : (w x i j : ℕ) (s t : Sign) (a b : ℤ) → s ≢ Zero → t ≢ Zero → w + x ≤ 2 ^ 80 → j < i → Worth w i s a → Worth x j t b
    → Worth (w + x) i s (a +ℤ b)
leads w x i j Zero t a b p q r h k l = absurd (p refl)
leads w x i j Neg Zero a b p q r h k l = absurd (q refl)
leads w x i j Pos Zero a b p q r h k l = absurd (q refl)
leads w x i j Pos Pos a b p q r h k l =
    record {
      u = k.u + l.u;
      is = omega (arith, ints, k.is, l.is);
      size = size_plus (2 ^ 80) w x ((2 ^ 80) ^ i) ((2 ^ 80) ^ j) k.u l.u k.size l.size.high (lower i j h);
    }
leads w x i j Neg Neg a b p q r h k l =
    record {
      u = k.u + l.u;
      is = omega (arith, ints, k.is, l.is);
      size = size_plus (2 ^ 80) w x ((2 ^ 80) ^ i) ((2 ^ 80) ^ j) k.u l.u k.size l.size.high (lower i j h);
    }
leads w x i j Pos Neg a b p q r h k l =
    let d =
    size_minus (2 ^ 80) w x ((2 ^ 80) ^ i) ((2 ^ 80) ^ j) k.u l.u (omega arith) r k.size l.size.high
    (power_above (2 ^ 80) i j (omega arith) h) in
    record { u = d.0; is = omega (arith, ints, k.is, l.is, d.1); size = d.2 }
leads w x i j Neg Pos a b p q r h k l =
    let d =
    size_minus (2 ^ 80) w x ((2 ^ 80) ^ i) ((2 ^ 80) ^ j) k.u l.u (omega arith) r k.size l.size.high
    (power_above (2 ^ 80) i j (omega arith) h) in
    record { u = d.0; is = omega (arith, ints, k.is, l.is, d.1); size = d.2 }

more : (w x i : ℕ) (s : Sign) (v : ℤ) → Worth w i s v → Worth (w + x) i s v
more w x i Neg v h = record { u = h.u; is = h.is; size = size_more (2 ^ 80) w x ((2 ^ 80) ^ i) h.u h.size }
more w x i Zero v h = h
more w x i Pos v h = record { u = h.u; is = h.is; size = size_more (2 ^ 80) w x ((2 ^ 80) ^ i) h.u h.size }

turn : (w x i : ℕ) (s : Sign) (a b : ℤ) → Worth (x + w) i s (b +ℤ a) → Worth (w + x) i s (a +ℤ b)
turn w x i s a b h = grind (arith, ints, add_comm, +ℤ_comm)

-- the sum where the second is 0
second_zero : (w x i : ℕ) (s : Sign) (a b : ℤ) → b ≡ pos 0 → Worth w i s a → Worth (w + x) i s (a +ℤ b)
second_zero w x i s a b e h = grind (arith, ints, more)

abbrev Led : ℕ → Term → ℤ → Type 0
Led w t v = Worth w t.number t.sign v

by_number : (w x : ℕ) (s t : Term) (a b : ℤ) → s.number ≢ t.number → s.sign ≢ Zero → t.sign ≢ Zero → w + x ≤ 2 ^ 80 → Led w s a
    → Led x t b → (c : Bool) → nat_lt s.number t.number ≡ c → Led (w + x) (cond c t s) (a +ℤ b)
by_number w x s t a b n p q r h k true e = grind (arith, ints, ltb-true, turn, leads)
by_number w x s t a b n p q r h k false e = grind (arith, ints, ltb-false, leads)

-- the term that leads two sums leads their sum
led : (w x : ℕ) (s t : Term) (a b : ℤ) → s.sign ≢ Zero → s.number ≢ t.number → w + x ≤ 2 ^ 80 → Led w s a → Led x t b
    → Led (w + x) (leading_term s t) (a +ℤ b)
led w x s t a b z n r h k = grind (arith, ints, by_number, second_zero)

-- a term alone
alone_size : (n P : ℕ) → suc n ≤ 2 ^ 75 → Size (2 ^ 80) (2 ^ 75) P (suc n * P)
alone_size n P h = grind (arith, suc-mul, mul-le-mul_right)

alone : (i : ℕ) (c : ℤ) → unsigned_abs c < 2 ^ 75 → Worth (2 ^ 75) i (sign_of c) (c *ℤ pos ((2 ^ 80) ^ i))
alone i (pos zero) h = zero-*ℤ (pos ((2 ^ 80) ^ i))
alone i (pos (suc n)) h = record { u = suc n * (2 ^ 80) ^ i; is = refl; size = alone_size n ((2 ^ 80) ^ i) (omega arith) }
alone i (negsuc n) h = record { u = suc n * (2 ^ 80) ^ i; is = refl; size = alone_size n ((2 ^ 80) ^ i) (omega arith) }

-- ---- what a led sum is worth
size_positive : (w P u : ℕ) → w < 2 ^ 80 → 0 < P → Size (2 ^ 80) w P u → 0 < u
size_positive w P zero h k s = grind (arith, mul-lt-mul_of_pos_right)
size_positive w P (suc u) h k s = omega arith

led_sign : (w i : ℕ) (s : Sign) (v : ℤ) → w < 2 ^ 80 → Worth w i s v → sign_of v ≡ s
led_sign w i Neg v h k =
    let g : 0 < k.u = size_positive w ((2 ^ 80) ^ i) k.u h (one-le-pow i (2 ^ 80) (omega arith)) k.size in
    sign_below v (omega (arith, ints, k.is))
led_sign w i Zero v h k = ap sign_of k
led_sign w i Pos v h k =
    let g : 0 < k.u = size_positive w ((2 ^ 80) ^ i) k.u h (one-le-pow i (2 ^ 80) (omega arith)) k.size in
    sign_above v (omega (arith, ints, k.is))

in_bound : (w n i u : ℕ) → w < 2 ^ 80 → i < n → u ≤ w * (2 ^ 80) ^ i → u < (2 ^ 80) ^ n
in_bound w n i u h k l = grind (arith, one-le-pow, mul-lt-mul_of_pos_right, power_above)

led_bound : (w n i : ℕ) (s : Sign) (v : ℤ) → w < 2 ^ 80 → i < n → Worth w i s v → unsigned_abs v < (2 ^ 80) ^ n
led_bound w n i Neg v h k l = let e : l.u < (2 ^ 80) ^ n = in_bound w n i l.u h k l.size.high in omega (arith, ints, l.is)
led_bound w n i Zero v h k l = let e : 0 < (2 ^ 80) ^ n = one-le-pow n (2 ^ 80) (omega arith) in omega (arith, ints)
led_bound w n i Pos v h k l = let e : l.u < (2 ^ 80) ^ n = in_bound w n i l.u h k l.size.high in omega (arith, ints, l.is)

-- ---- the power as a sum of the plain power and the five terms
abbrev ties : (a b c d p : ℕ × Point) → ℤ
ties a b c d p =
    orientation a.1 b.1 c.1 d.1 *ℤ pos ((2 ^ 80) ^ p.0) +ℤ orientation a.1 b.1 p.1 c.1 *ℤ pos ((2 ^ 80) ^ d.0)
    +ℤ orientation a.1 p.1 b.1 d.1 *ℤ pos ((2 ^ 80) ^ c.0)
    +ℤ orientation p.1 a.1 c.1 d.1 *ℤ pos ((2 ^ 80) ^ b.0) +ℤ orientation b.1 p.1 c.1 d.1 *ℤ pos ((2 ^ 80) ^ a.0)

power_is : (n : ℕ) (a b c d p : ℕ × Point)
    → tied_power n a b c d p ≡ pos ((2 ^ 80) ^ n) *ℤ plain_power a.1 b.1 c.1 d.1 p.1 +ℤ ties a b c d p
unfolding power orientation
power_is n a b c d p =
    let base : ℕ → ℤ = λ i. pos ((2 ^ 80) ^ i) in
    let high = λ (v : Symbols) (t : Polynomial). sum (product (square' v) (variable 20)) t in
    ring (coordinates a.1
    (coordinates b.1
    (coordinates c.1 (coordinates d.1 (coordinates p.1 (base a.0 ∷ base b.0 ∷ base c.0 ∷ base d.0 ∷ base p.0 ∷ base n ∷ []))))))
    (power' A B C D P (high A (variable 15)) (high B (variable 16)) (high C (variable 17)) (high D (variable 18))
    (high P (variable 19)))
    (sum (product (variable 20) (power' A B C D P (square' A) (square' B) (square' C) (square' D) (square' P)))
    (sum (sum (sum (sum (product (orientation' A B C D) (variable 19)) (product (orientation' A B P C) (variable 18)))
    (product (orientation' A P B D) (variable 17))) (product (orientation' P A C D) (variable 16)))
    (product (orientation' B P C D) (variable 15))))
    tt

-- ---- the term that leads the ties
keeps : (P : Term → Type 0) (u : Sign) (s t : Term) → P s → P t → P (leading_of u s t)
keeps P Neg s t h k = elim (nat_lt s.number t.number) as (λ b. P (cond b t s)) [ true ↦ k | false ↦ h ]
keeps P Zero s t h k = h
keeps P Pos s t h k = elim (nat_lt s.number t.number) as (λ b. P (cond b t s)) [ true ↦ k | false ↦ h ]

number_kept : (P : ℕ → Type 0) (s t : Term) → P s.number → P t.number → P (leading_term s t).number
number_kept P s t h k = keeps (λ x. P x.number) t.sign s t h k

sign_kept : (s t : Term) → s.sign ≢ Zero → (leading_term s t).sign ≢ Zero
sign_kept s t h = grind arith

-- the five places are of the box
pub record AreKept (a b c d p : Point) : Type 0 where
  pub a_kept : IsWithin BOX_LIMIT a
  pub b_kept : IsWithin BOX_LIMIT b
  pub c_kept : IsWithin BOX_LIMIT c
  pub d_kept : IsWithin BOX_LIMIT d
  pub p_kept : IsWithin BOX_LIMIT p

pub five_kept : (a b c d p : Point)
    → IsWithin BOX_LIMIT a × IsWithin BOX_LIMIT b × IsWithin BOX_LIMIT c × IsWithin BOX_LIMIT d × IsWithin BOX_LIMIT p
    → AreKept a b c d p
five_kept a b c d p h = record { a_kept = h.0; b_kept = h.1; c_kept = h.2; d_kept = h.3; p_kept = h.4 }

-- the deciding term, whose sign is not zero and whose number is below n
record Decides (n : ℕ) (t : Term) (v : ℤ) : Type 0 where
  number_below : t.number < n
  not_zero : t.sign ≢ Zero
  leads_ties : Led (5 * 2 ^ 75) t v

ties_decided : (n : ℕ) (a b c d p : ℕ × Point) → AreApart a b c d p → AreBelow n a b c d p → AreKept a.1 b.1 c.1 d.1 p.1
    → pos 0 <ℤ orientation a.1 b.1 c.1 d.1
    → Decides n (deciding_term a b c d p) (ties a b c d p)
ties_decided n a b c d p x y k o =
    let P : Term = record { number = p.0; sign = Pos } in
    let D : Term = term d.0 (orientation a.1 b.1 p.1 c.1) in
    let C : Term = term c.0 (orientation a.1 p.1 b.1 d.1) in
    let B : Term = term b.0 (orientation p.1 a.1 c.1 d.1) in
    let A : Term = term a.0 (orientation b.1 p.1 c.1 d.1) in
    let with_d : Term = leading_term P D in
    let with_c : Term = leading_term with_d C in
    let with_b : Term = leading_term with_c B in
    let P_some : P.sign ≢ Zero = (λ e. cc) in
    let d_some = sign_kept P D P_some in let c_some = sign_kept with_d C d_some in let b_some = sign_kept with_c B c_some in
    let P_led : Led (2 ^ 75) P (orientation a.1 b.1 c.1 d.1 *ℤ pos ((2 ^ 80) ^ p.0)) =
    subst (λ (s : Sign). Worth (2 ^ 75) p.0 s (orientation a.1 b.1 c.1 d.1 *ℤ pos ((2 ^ 80) ^ p.0)))
    (sign_above (orientation a.1 b.1 c.1 d.1) o)
    (alone p.0 (orientation a.1 b.1 c.1 d.1) (orientation_bound a.1 b.1 c.1 d.1 k.a_kept k.b_kept k.c_kept k.d_kept)) in
    let d_led : Led (2 * 2 ^ 75) with_d
    (orientation a.1 b.1 c.1 d.1 *ℤ pos ((2 ^ 80) ^ p.0) +ℤ orientation a.1 b.1 p.1 c.1 *ℤ pos ((2 ^ 80) ^ d.0)) =
    led (2 ^ 75) (2 ^ 75) P D _ _ P_some (λ e. x.d_p (sym e)) (omega arith) P_led
    (alone d.0 _ (orientation_bound a.1 b.1 p.1 c.1 k.a_kept k.b_kept k.p_kept k.c_kept)) in
    let c_led : Led (3 * 2 ^ 75) with_c
    (orientation a.1 b.1 c.1 d.1 *ℤ pos ((2 ^ 80) ^ p.0) +ℤ orientation a.1 b.1 p.1 c.1 *ℤ pos ((2 ^ 80) ^ d.0)
    +ℤ orientation a.1 p.1 b.1 d.1 *ℤ pos ((2 ^ 80) ^ c.0)) =
    led (2 * 2 ^ 75) (2 ^ 75) with_d C _ _ d_some (number_kept (λ i. i ≢ c.0) P D (λ e. x.c_p (sym e)) (λ e. x.c_d (sym e)))
    (omega arith) d_led
    (alone c.0 _ (orientation_bound a.1 p.1 b.1 d.1 k.a_kept k.p_kept k.b_kept k.d_kept)) in
    let b_led : Led (4 * 2 ^ 75) with_b
    (orientation a.1 b.1 c.1 d.1 *ℤ pos ((2 ^ 80) ^ p.0) +ℤ orientation a.1 b.1 p.1 c.1 *ℤ pos ((2 ^ 80) ^ d.0)
    +ℤ orientation a.1 p.1 b.1 d.1 *ℤ pos ((2 ^ 80) ^ c.0) +ℤ orientation p.1 a.1 c.1 d.1 *ℤ pos ((2 ^ 80) ^ b.0)) =
    led (3 * 2 ^ 75) (2 ^ 75) with_c B _ _ c_some
    (number_kept (λ i. i ≢ b.0) with_d C (number_kept (λ i. i ≢ b.0) P D (λ e. x.b_p (sym e)) (λ e. x.b_d (sym e)))
    (λ e. x.b_c (sym e))) (omega arith) c_led
    (alone b.0 _ (orientation_bound p.1 a.1 c.1 d.1 k.p_kept k.a_kept k.c_kept k.d_kept)) in
    record {
      number_below =
          number_kept (λ i. i < n) with_b A
          (number_kept (λ i. i < n) with_c B
          (number_kept (λ i. i < n) with_d C (number_kept (λ i. i < n) P D y.p_below y.d_below) y.c_below) y.b_below) y.a_below;
      not_zero = sign_kept with_b A b_some;
      leads_ties = led (4 * 2 ^ 75) (2 ^ 75) with_b A _ _ b_some
          (number_kept (λ i. i ≢ a.0) with_c B
          (number_kept (λ i. i ≢ a.0) with_d C (number_kept (λ i. i ≢ a.0) P D (λ e. x.a_p (sym e)) (λ e. x.a_d (sym e)))
          (λ e. x.a_c (sym e))) (λ e. x.a_b (sym e))) (omega arith) b_led
          (alone a.0 _ (orientation_bound b.1 p.1 c.1 d.1 k.b_kept k.p_kept k.c_kept k.d_kept));
    }

power_sign : (n : ℕ) (a b c d p : ℕ × Point) → Decides n (deciding_term a b c d p) (ties a b c d p) →
    sign_of (tied_power n a b c d p) ≡ first_sign (sign_of (plain_power a.1 b.1 c.1 d.1 p.1)) (deciding_term a b c d p).sign
power_sign n a b c d p k = grind (arith, power_is, leading_digit, led_bound, led_sign)

first_some : (s t : Sign) → t ≢ Zero → first_sign s t ≢ Zero
first_some Neg t h = λ e. cc
first_some Zero t h = h
first_some Pos t h = λ e. cc

inside_is : (z : ℤ) (r : Bool) → r ≡ is_below_zero (sign_of z) → IsTrue r ↔ (z <ℤ pos 0)
inside_is (pos zero) r e = (λ t. absurd (true≢false (sym t ∙ e)), λ h. absurd (omega (arith, ints)))
inside_is (pos (suc n)) r e = (λ t. absurd (true≢false (sym t ∙ e)), λ h. absurd (omega (arith, ints)))
inside_is (negsuc n) r e = (λ t. omega (arith, ints), λ h. e)

outside_is : (z : ℤ) (r : Bool) → sign_of z ≢ Zero → r ≡ is_below_zero (sign_of z) → IsFalse r ↔ (pos 0 <ℤ z)
outside_is (pos zero) r n e = absurd (n refl)
outside_is (pos (suc n)) r m e = (λ t. omega (arith, ints), λ h. e)
outside_is (negsuc n) r m e = (λ t. absurd (true≢false (sym e ∙ t)), λ h. absurd (omega (arith, ints)))

-- what the code answers against the power
pub decided : (a b c d p : ℕ × Point) (r : Bool) → AreApart a b c d p → AreKept a.1 b.1 c.1 d.1 p.1
    → pos 0 <ℤ orientation a.1 b.1 c.1 d.1
    → r ≡ is_below_zero (first_sign (sign_of (plain_power a.1 b.1 c.1 d.1 p.1)) (deciding_term a b c d p).sign)
    → (n : ℕ) → AreBelow n a b c d p
    → (IsTrue r ↔ (tied_power n a b c d p <ℤ pos 0)) × (IsFalse r ↔ (pos 0 <ℤ tied_power n a b c d p))
decided a b c d p r x k o e n y =
    let t = ties_decided n a b c d p x y k o in
    let s = power_sign n a b c d p t in
    let f : r ≡ is_below_zero (sign_of (tied_power n a b c d p)) = e ∙ ap is_below_zero (sym s) in
    let g : sign_of (tied_power n a b c d p) ≢ Zero =
    λ z. first_some (sign_of (plain_power a.1 b.1 c.1 d.1 p.1)) (deciding_term a b c d p).sign t.not_zero (sym s ∙ z) in
    (inside_is (tied_power n a b c d p) r f, outside_is (tied_power n a b c d p) r g f)
