-- Corners of the box as cells, whatever the number of vertices is.
--
-- All eight corners are on one sphere, so the plain power of a corner at four others is zero, and its power is that of the terms
-- of the symbolic perturbation (corner_power). So it can be computed which corners are in conflict with four others (is_met) and
-- which are not (is_clear), and with it that four corners are a cell of the corners alone (corner_cell).
use Rattle.std.proofs.Common.{ℕ, ◌≡◌, ◌<◌, ◌^◌, ap, ap₂, sym, subst, ◌∙◌, arith, Bool, true, not, ◌&&◌, ◌==◌, int_lt}
use Rattle.std.proofs.Common.{unsigned_abs, ℤ, pos, ◌+ℤ◌, ◌*ℤ◌, ◌≤ℤ◌, ◌<ℤ◌, [], ◌∷◌}
use mathlib.Core.Path.{fun_ext}
use lib.IntN.{*ℤ-zero}
use Rattle.std.proofs.lemmas.Bool.{eqb-true, and_parts}
use Rattle.std.proofs.lemmas.Int.{ints}
use Rattle.geo_sign.specs.declared.point.TheConstants.{CORNERS}
use Rattle.geo_sign.specs.Point.{Point, corner_point, square}
use Rattle.geo_sign.specs.Orientation.{orientation}
use Rattle.geo_sign.specs.Power.{power, plain_power}
use Rattle.geo_sign.specs.Tetrahedron.{Tetrahedron}
use Rattle.geo_sign.specs.Tie.{tied_power}
use Rattle.geo_sign.specs.Vertices.{Vertices, Has, power_of}
use Rattle.geo_sign.specs.Boxes.{IsBoxed, IsTied}
use Rattle.geo_sign.specs.Polynomial.{product, sum, variable}
use Rattle.geo_sign.proofs.Booleans.{every, every_at}
use Rattle.geo_sign.proofs.Ring.{ring}
use Rattle.geo_sign.proofs.Rewritings.{IsCellOf, orientation_at, power_at}
use Rattle.geo_sign.proofs.SignTests.{above_true, below_true}
use Rattle.geo_sign.proofs.Written.{coordinates, power', symbols}

-- ---- the power under the symbolic perturbation
abbrev pub tied : Vertices → ℕ → ℕ × Point
tied v u = (u, v.at u)

pub power_tied : (v : Vertices) → IsTied v → (a b c d u : ℕ)
    → power_of v a b c d u ≡ tied_power v.count (tied v a) (tied v b) (tied v c) (tied v d) (tied v u)
power_tied v t a b c d u =
    ap (λ (high : ℕ → ℤ). power (v.at a) (v.at b) (v.at c) (v.at d) (v.at u) (high a) (high b) (high c) (high d) (high u))
    (fun_ext t)

-- each power is a number of units, and the power of the tie terms
split : (a b c d p : Point) (n ha hb hc hd hp ta tb tc td tp : ℤ)
    → power a b c d p (ha *ℤ n +ℤ ta) (hb *ℤ n +ℤ tb) (hc *ℤ n +ℤ tc) (hd *ℤ n +ℤ td) (hp *ℤ n +ℤ tp)
    ≡ n *ℤ power a b c d p ha hb hc hd hp +ℤ power a b c d p ta tb tc td tp
unfolding orientation power
split a b c d p n ha hb hc hd hp ta tb tc td tp =
    let lifted = λ (i j : ℕ). sum (product (variable i) (variable 15)) (variable j) in
    ring (coordinates a
    (coordinates b (coordinates c (coordinates d (coordinates p (n ∷ ha ∷ hb ∷ hc ∷ hd ∷ hp ∷ ta ∷ tb ∷ tc ∷ td ∷ tp ∷ []))))))
    (power' (symbols 0) (symbols 3) (symbols 6) (symbols 9) (symbols 12) (lifted 16 21) (lifted 17 22) (lifted 18 23)
    (lifted 19 24) (lifted 20 25))
    (sum (product (variable 15)
    (power' (symbols 0) (symbols 3) (symbols 6) (symbols 9) (symbols 12) (variable 16) (variable 17) (variable 18) (variable 19)
    (variable 20)))
    (power' (symbols 0) (symbols 3) (symbols 6) (symbols 9) (symbols 12) (variable 21) (variable 22) (variable 23) (variable 24)
    (variable 25))) tt

-- ---- what is computed of corners
abbrev pub corner_orientation : Tetrahedron → ℤ
corner_orientation t = orientation (corner_point t.a) (corner_point t.b) (corner_point t.c) (corner_point t.d)

abbrev base : ℕ → ℤ
base i = pos ((2 ^ 80) ^ i)

abbrev sphere : Tetrahedron → ℕ → ℤ
sphere t u = plain_power (corner_point t.a) (corner_point t.b) (corner_point t.c) (corner_point t.d) (corner_point u)

abbrev tie : Tetrahedron → ℕ → ℤ
tie t u =
    power (corner_point t.a) (corner_point t.b) (corner_point t.c) (corner_point t.d) (corner_point u) (base t.a) (base t.b)
    (base t.c) (base t.d) (base u)

unfoldable pub is_met : Tetrahedron → ℕ → Bool
is_met t u = (unsigned_abs (sphere t u) == 0) && int_lt (tie t u) (pos 0)

unfoldable pub is_clear : Tetrahedron → ℕ → Bool
is_clear t u = (unsigned_abs (sphere t u) == 0) && not (int_lt (tie t u) (pos 0))

zero_abs : (z : ℤ) → (unsigned_abs z == 0) ≡ true → z ≡ pos 0
zero_abs z h = let e : unsigned_abs z ≡ 0 = eqb-true (unsigned_abs z) 0 h in omega (arith, ints)

not_lower : (z : ℤ) → not (int_lt z (pos 0)) ≡ true → pos 0 ≤ℤ z
not_lower z h = grind (arith, ints)

-- ---- and what it says of vertices
module _ (v : Vertices) (boxed : IsBoxed v) (t : Tetrahedron) (a_in : t.a < CORNERS) (b_in : t.b < CORNERS) (c_in : t.c < CORNERS)
    (d_in : t.d < CORNERS) where
  pub corner_orient : orientation_at v t ≡ corner_orientation t
  corner_orient =
      ap₂ (λ (i j : Point). orientation i j (v.at t.c) (v.at t.d)) (boxed.corner_at t.a a_in) (boxed.corner_at t.b b_in)
      ∙ ap₂ (λ (i j : Point). orientation (corner_point t.a) (corner_point t.b) i j) (boxed.corner_at t.c c_in)
      (boxed.corner_at t.d d_in)

  corner_power : (u : ℕ) → u < CORNERS → (unsigned_abs (sphere t u) == 0) ≡ true → power_at v t u ≡ tie t u
  corner_power u l flat =
      let n = v.count in
      let numbered : ℕ → ℕ × Point = λ k. (k, corner_point k) in
      let e : power_at v t u ≡ tied_power n (numbered t.a) (numbered t.b) (numbered t.c) (numbered t.d) (numbered u) =
      power_tied v boxed.tied t.a t.b t.c t.d u
      ∙ ap₂ (λ (i j : Point). tied_power n (t.a, i) (t.b, j) (tied v t.c) (tied v t.d) (tied v u)) (boxed.corner_at t.a a_in)
      (boxed.corner_at t.b b_in)
      ∙ ap₂ (λ (i j : Point). tied_power n (numbered t.a) (numbered t.b) (t.c, i) (t.d, j) (tied v u))
      (boxed.corner_at t.c c_in) (boxed.corner_at t.d d_in)
      ∙ ap (λ (i : Point). tied_power n (numbered t.a) (numbered t.b) (numbered t.c) (numbered t.d) (u, i))
      (boxed.corner_at u l) in
      let g =
      split (corner_point t.a) (corner_point t.b) (corner_point t.c) (corner_point t.d) (corner_point u) (pos ((2 ^ 80) ^ n))
      (square (corner_point t.a)) (square (corner_point t.b)) (square (corner_point t.c)) (square (corner_point t.d))
      (square (corner_point u)) (base t.a) (base t.b) (base t.c) (base t.d) (base u) in
      let y : pos ((2 ^ 80) ^ n) *ℤ sphere t u ≡ pos 0 =
      ap (λ (i : ℤ). pos ((2 ^ 80) ^ n) *ℤ i) (zero_abs (sphere t u) flat) ∙ *ℤ-zero (pos ((2 ^ 80) ^ n)) in
      omega (arith, ints, e, g, y)

  pub met_at : (u : ℕ) → u < CORNERS → is_met t u ≡ true → power_at v t u <ℤ pos 0
  unfolding is_met
  met_at u l h =
      let both = and_parts (unsigned_abs (sphere t u) == 0) (int_lt (tie t u) (pos 0)) h in
      subst (λ (z : ℤ). z <ℤ pos 0) (sym (corner_power u l both.0)) (below_true (tie t u) both.1)

  pub clear_at : (u : ℕ) → u < CORNERS → is_clear t u ≡ true → pos 0 ≤ℤ power_at v t u
  unfolding is_clear
  clear_at u l h =
      let both = and_parts (unsigned_abs (sphere t u) == 0) (not (int_lt (tie t u) (pos 0))) h in
      subst (λ (z : ℤ). pos 0 ≤ℤ z) (sym (corner_power u l both.0)) (not_lower (tie t u) both.1)

  pub corner_cell : ((u : ℕ) → Has v u → u < CORNERS) → int_lt (pos 0) (corner_orientation t) ≡ true
      → every 8 (is_clear t) ≡ true → IsCellOf v t
  corner_cell only o k =
      record {
        has_a = boxed.corner_in t.a a_in;
        has_b = boxed.corner_in t.b b_in;
        has_c = boxed.corner_in t.c c_in;
        has_d = boxed.corner_in t.d d_in;
        positive = subst (λ (z : ℤ). pos 0 <ℤ z) (sym corner_orient) (above_true (corner_orientation t) o);
        clear = λ u h. clear_at u (only u h) (every_at 8 (is_clear t) k u (only u h));
      }
