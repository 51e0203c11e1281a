-- A displaced scanner is a place in general position, and so is the one turned round; the places of walks are in the box, and
-- the signs of their sides are found from two signs. The side of a displaced scanner is a number to the base K = 2^64 of four
-- digits, an orientation and the three coordinates of the normal; all digits are small against the base, so it is zero only
-- where all of them are, which is where the three points are on one line. It is below the weight of the near places, so at
-- these the point's own side decides first.
-- Stands on: geo_sign's digits and bounds, Near and Spread.
use Rattle.std.proofs.Common.{ℕ, zero, suc, ◌^◌, ◌<◌, ◌≡◌, refl, ap, ap₂, ◌∙◌, arith, ℤ, pos, negsuc, neg_ℤ, ◌+ℤ◌, ◌-ℤ◌, ◌*ℤ◌}
use Rattle.std.proofs.Common.{unsigned_abs, [], ◌∷◌}
use Rattle.std.proofs.lemmas.Int.{ints}
use Rattle.geo_sign.specs.Polynomial.{constant, negation, product, sum, variable}
use Rattle.geo_sign.proofs.Ring.{ring}
use Rattle.geo_sign.specs.Signs.{sign_of, first_sign, opposite_sign}
use Rattle.geo_sign.specs.Point.{Point, IsWithin, cross, dot, step}
use Rattle.geo_sign.specs.declared.point.TheConstants.{BOX_LIMIT, DATA_LIMIT}
use Rattle.geo_sign.specs.Orientation.{orientation}
use Rattle.geo_sign.specs.Rational.{RationalPoint, displaced, side}
use Rattle.geo_sign.proofs.Bounds.{step_within, dot_within, data_in_box}
use Rattle.geo_sign.proofs.Digits.{leading_digit, side_bound, side_on_line}
use Rattle.geo_sign.proofs.Written.{coordinates, side', symbols}
use Rattle.geo_sign.proofs.Exchanges.{point_side}
use Rattle.geo_sign.specs.Vertices.{Vertices}
use Rattle.geo_sign.specs.Boxes.{IsBoxed}
use Rattle.geo_sign.specs.Places.{IsInBox}
use Rattle.geo_sign.specs.NearPlaces.{reversed, weight, towards_place, behind_place}
use Rattle.cell_laws.specs.WalkLaws.{NearLaw, SpreadLaw}
use Rattle.cell_laws.proofs.Box.{vertex_within}
use Rattle.cell_laws.proofs.Spread.{IsSpread, ends_apart, facet_below}
use Rattle.cell_laws.proofs.Heights.{normal_within}
use Rattle.cell_laws.proofs.Near.{IsFree, one_times, side_mix}

pub side_reversed : (a b c : Point) (q : RationalPoint) → side a b c (reversed q) ≡ neg_ℤ (side a b c q)
unfolding side
side_reversed a b c q =
    ring (coordinates a (coordinates b (coordinates c (coordinates q.at (q.over ∷ [])))))
    (side' (symbols 0) (symbols 3) (symbols 6)
    (record {
      at = record { x = negation (variable 9); y = negation (variable 10); z = negation (variable 11) };
      over = negation (variable 12);
    }))
    (negation (side' (symbols 0) (symbols 3) (symbols 6) (record { at = symbols 9; over = variable 12 }))) tt

-- ---- bounds
pub scanner_bounded :
    (a b c s : Point) → IsWithin BOX_LIMIT a → IsWithin BOX_LIMIT b → IsWithin BOX_LIMIT c → IsWithin BOX_LIMIT s →
    unsigned_abs (side a b c (displaced s)) < weight
scanner_bounded a b c s h i j k =
    let n : Point = cross (step a b) (step a c) in
    let w : IsWithin (2 ^ 49) n = normal_within a b c h i j in
    side_bound a b c s n (dot n (step a s)) refl refl w (dot_within n (step a s) w (step_within a s h k))

-- ---- the scanner is in the plane of no three points but those on a line
pub spread_law : SpreadLaw
spread_law a b c s h i j e = side_on_line a b c s (cross (step a b) (step a c)) refl (normal_within a b c h i j) e

flat_side :
    (a b c : Point) (q : RationalPoint) → (cross (step a b) (step a c)).x ≡ pos 0 → (cross (step a b) (step a c)).y ≡ pos 0 →
    (cross (step a b) (step a c)).z ≡ pos 0 → side a b c q ≡ pos 0
unfolding side
flat_side a b c q h k l =
    let x : ℤ = q.at.x -ℤ q.over *ℤ a.x in let y : ℤ = q.at.y -ℤ q.over *ℤ a.y in let z : ℤ = q.at.z -ℤ q.over *ℤ a.z in
    ap (λ (n : ℤ). n *ℤ x +ℤ (cross (step a b) (step a c)).y *ℤ y +ℤ (cross (step a b) (step a c)).z *ℤ z) h
    ∙ ap (λ (n : ℤ). pos 0 *ℤ x +ℤ n *ℤ y +ℤ (cross (step a b) (step a c)).z *ℤ z) k
    ∙ ap (λ (n : ℤ). pos 0 *ℤ x +ℤ pos 0 *ℤ y +ℤ n *ℤ z) l
    ∙ ring (x ∷ y ∷ z ∷ [])
    (sum (sum (product (constant (pos 0)) (variable 0)) (product (constant (pos 0)) (variable 1)))
    (product (constant (pos 0)) (variable 2))) (constant (pos 0)) tt

pub scanner_spread : (v : Vertices) → IsBoxed v → (s : Point) → IsSpread v (displaced s)
scanner_spread v x s = grind (arith, spread_law, vertex_within, flat_side)

neg_none : (z : ℤ) → neg_ℤ z ≡ pos 0 → z ≡ pos 0
neg_none z h = omega (arith, ints)

pub scanner_free : (v : Vertices) → IsBoxed v → (s : Point) → IsWithin BOX_LIMIT s → IsFree v (displaced s) weight
scanner_free v x s h = grind (arith, ends_apart, scanner_spread, facet_below, scanner_bounded, vertex_within)

pub reversed_free : (v : Vertices) (q : RationalPoint) (t : ℕ) → IsFree v q t → IsFree v (reversed q) t
reversed_free v q t h = grind (arith, ints, neg_none, side_reversed)

-- ---- these places are in the box
pub scanner_in_box : (s : Point) → IsWithin DATA_LIMIT s → IsInBox (displaced s)
scanner_in_box s h = grind (arith, ints)

near_in_box : (p s : Point) → IsWithin DATA_LIMIT p → IsWithin DATA_LIMIT s → IsInBox (towards_place p s)
near_in_box p s g h =
    let hx = h.x_within in let hy = h.y_within in let hz = h.z_within in
    let gx = g.x_within in let gy = g.y_within in let gz = g.z_within in
    record {
      over_positive = omega (arith, ints);
      x_within = omega (arith, ints, hx, gx);
      y_within = omega (arith, ints, hy, gy);
      z_within = omega (arith, ints, hz, gz);
    }

away_in_box : (p s : Point) → IsWithin DATA_LIMIT p → IsWithin DATA_LIMIT s → IsInBox (behind_place p s)
away_in_box p s g h =
    let hx = h.x_within in let hy = h.y_within in let hz = h.z_within in
    let gx = g.x_within in let gy = g.y_within in let gz = g.z_within in
    record {
      over_positive = omega (arith, ints);
      x_within = omega (arith, ints, hx, gx);
      y_within = omega (arith, ints, hy, gy);
      z_within = omega (arith, ints, hz, gz);
    }

-- ---- the sign of such a place's side
near_sign :
    (a b c p s : Point) → unsigned_abs (side a b c (displaced s)) < weight →
    sign_of (side a b c (towards_place p s)) ≡ first_sign (sign_of (orientation a b c p)) (sign_of (side a b c (displaced s)))
near_sign a b c p s h =
    ap sign_of
    (side_mix a b c p (displaced s) (pos weight) (pos 1)
    ∙ ap₂ (λ x y. pos weight *ℤ x +ℤ y) (point_side a b c p) (one_times (side a b c (displaced s))))
    ∙ leading_digit weight (orientation a b c p) (side a b c (displaced s)) h

sign_opposite : (z : ℤ) → sign_of (neg_ℤ z) ≡ opposite_sign (sign_of z)
sign_opposite (pos zero) = refl
sign_opposite (pos (suc n)) = refl
sign_opposite (negsuc n) = refl

away_sign :
    (a b c p s : Point) → unsigned_abs (side a b c (displaced s)) < weight → sign_of (side a b c (behind_place p s)) ≡
    first_sign (sign_of (orientation a b c p)) (opposite_sign (sign_of (side a b c (displaced s))))
away_sign a b c p s h =
    let z = side a b c (displaced s) in
    ap sign_of
    (side_mix a b c p (reversed (displaced s)) (pos weight) (pos 1)
    ∙ ap₂ (λ x y. pos weight *ℤ x +ℤ y) (point_side a b c p)
    (one_times (side a b c (reversed (displaced s))) ∙ side_reversed a b c (displaced s)))
    ∙ leading_digit weight (orientation a b c p) (neg_ℤ z) (below z h)
    ∙ ap (λ t. first_sign (sign_of (orientation a b c p)) t) (sign_opposite z)
  where
    below : (z : ℤ) → unsigned_abs z < weight → unsigned_abs (neg_ℤ z) < weight
    below z h = omega (arith, ints)

pub near_law : NearLaw
near_law p s g h =
    record {
      towards_in_box = near_in_box p s g h;
      behind_in_box = away_in_box p s g h;
      scanner_in_box = scanner_in_box s h;
      towards_sign = λ a b c i j k. near_sign a b c p s (scanner_bounded a b c s i j k (data_in_box s h));
      behind_sign = λ a b c i j k. away_sign a b c p s (scanner_bounded a b c s i j k (data_in_box s h));
    }
