-- Why the sign of a product with a rounded normal is right where it is beyond the doubt, and which side it gives.
--
-- A normal n is 2^12 h and a rest below 2^12 in each coordinate. For a vector r between two points of the box the product of the
-- rest with r is below 2^12 times the doubt, and 2^12 h . r is beyond that where h . r is beyond the doubt (rounding). The
-- product of n and the vector from the scanner to p is the orientation of p, c, the scanner and b with the other sign
-- (orientation_is), and that gives the side of p b c on which the perturbed scanner is where it is not zero (before_by).
use Rattle.std.proofs.Common.{◌+◌, ◌*◌, ◌^◌, ◌<◌, ◌≤◌, ◌≡◌, ap, subst, ◌∙◌, arith, Bool, IsTrue, ◌↔◌, []}
use Rattle.std.proofs.Common.{ℤ, pos, neg_ℤ, ◌+ℤ◌, ◌-ℤ◌, ◌*ℤ◌, ◌<ℤ◌, ◌≤ℤ◌, unsigned_abs}
use Rattle.std.proofs.lemmas.Int.{ints, by_lt_z}
use Rattle.geo_sign.specs.declared.point.TheConstants.{BOX_LIMIT}
use Rattle.geo_sign.specs.Orientation.{orientation}
use Rattle.geo_sign.specs.Point.{Point, IsWithin, step, cross, dot}
use Rattle.geo_sign.specs.Polynomial.{variable, constant, sum, difference, product, negation}
use Rattle.geo_sign.specs.Rational.{side, displaced}
use Rattle.geo_sign.proofs.Bounds.{abs_add, abs_mul, step_within}
use Rattle.geo_sign.proofs.Ring.{ring}
use Rattle.geo_sign.proofs.Written.{coordinates, symbols, step', cross', dot', orientation'}
use Rattle.sight.proofs.Planes.{before_by}
use Rattle.beam.specs.declared.plane.Plane.{Plane}
use Rattle.beam.specs.Planes.{vector_of, IsRounded, IsPlane}

-- ---- rounding
-- a coordinate's rest
abbrev rest : ℤ → ℤ → ℤ
rest n h = n -ℤ pos 4096 *ℤ h

parts : (n h r : Point) → dot n r
    ≡ pos 4096 *ℤ dot h r +ℤ (rest n.x h.x *ℤ r.x +ℤ rest n.y h.y *ℤ r.y +ℤ rest n.z h.z *ℤ r.z)
parts n h r =
    ring (coordinates n (coordinates h (coordinates r []))) (dot' (symbols 0) (symbols 6))
    (sum (product (constant (pos 4096)) (dot' (symbols 3) (symbols 6)))
    (sum (sum (product (difference (variable 0) (product (constant (pos 4096)) (variable 3))) (variable 6))
    (product (difference (variable 1) (product (constant (pos 4096)) (variable 4))) (variable 7)))
    (product (difference (variable 2) (product (constant (pos 4096)) (variable 5))) (variable 8)))) tt

small : (a b c x y z : ℤ) → unsigned_abs a ≤ 4095 → unsigned_abs b ≤ 4095 → unsigned_abs c ≤ 4095 → unsigned_abs x ≤ 2 ^ 24
    → unsigned_abs y ≤ 2 ^ 24 → unsigned_abs z ≤ 2 ^ 24
    → unsigned_abs (a *ℤ x +ℤ b *ℤ y +ℤ c *ℤ z) ≤ 4095 * 2 ^ 24 + 4095 * 2 ^ 24 + 4095 * 2 ^ 24
small a b c x y z h i j k l m =
    abs_add (a *ℤ x +ℤ b *ℤ y) (c *ℤ z) (4095 * 2 ^ 24 + 4095 * 2 ^ 24) (4095 * 2 ^ 24)
    (abs_add (a *ℤ x) (b *ℤ y) (4095 * 2 ^ 24) (4095 * 2 ^ 24) (abs_mul a x 4095 (2 ^ 24) h k) (abs_mul b y 4095 (2 ^ 24) i l))
    (abs_mul c z 4095 (2 ^ 24) j m)

far_above : (d e n : ℤ) → n ≡ pos 4096 *ℤ d +ℤ e → unsigned_abs e ≤ 4095 * 2 ^ 24 + 4095 * 2 ^ 24 + 4095 * 2 ^ 24
    → pos (3 * 2 ^ 24) <ℤ d → pos 0 <ℤ n
far_above d e n is h l = omega (arith, ints)

far_below : (d e n : ℤ) → n ≡ pos 4096 *ℤ d +ℤ e → unsigned_abs e ≤ 4095 * 2 ^ 24 + 4095 * 2 ^ 24 + 4095 * 2 ^ 24
    → d <ℤ neg_ℤ (pos (3 * 2 ^ 24)) → n <ℤ pos 0
far_below d e n is h l = omega (arith, ints)

pub rounding : (n h : Point) → unsigned_abs (rest n.x h.x) ≤ 4095 → unsigned_abs (rest n.y h.y) ≤ 4095
    → unsigned_abs (rest n.z h.z) ≤ 4095 → IsRounded n h (3 * 2 ^ 24)
rounding n h i j k =
    record {
      above = λ r w l. far_above (dot h r) (other r) (dot n r) (parts n h r) (bound r w) l;
      below = λ r w l. far_below (dot h r) (other r) (dot n r) (parts n h r) (bound r w) l;
    }
  where
    other : Point → ℤ
    other r = rest n.x h.x *ℤ r.x +ℤ rest n.y h.y *ℤ r.y +ℤ rest n.z h.z *ℤ r.z

    bound : (r : Point) → IsWithin (2 ^ 24) r → unsigned_abs (other r) ≤ 4095 * 2 ^ 24 + 4095 * 2 ^ 24 + 4095 * 2 ^ 24
    bound r w =
        small (rest n.x h.x) (rest n.y h.y) (rest n.z h.z) r.x r.y r.z i j k w.x_within w.y_within w.z_within

-- an exact normal
pub not_rounded : (n : Point) → IsRounded n n 0
not_rounded n = record { above = λ r w l. l; below = λ r w l. l }

-- ---- the side
orientation_is : (p b c s : Point) → neg_ℤ (dot (cross (step s b) (step s c)) (step s p)) ≡ orientation p c s b
unfolding orientation
orientation_is p b c s =
    ring (coordinates p (coordinates b (coordinates c (coordinates s []))))
    (negation (dot' (cross' (step' (symbols 9) (symbols 3)) (step' (symbols 9) (symbols 6))) (step' (symbols 9) (symbols 0))))
    (orientation' (symbols 0) (symbols 6) (symbols 9) (symbols 3)) tt

base_is : (h p s : Point) → dot h p -ℤ dot h s ≡ dot h (step s p)
base_is h p s =
    ring (coordinates h (coordinates p (coordinates s []))) (difference (dot' (symbols 0) (symbols 3)) (dot' (symbols 0) (symbols 6)))
    (dot' (symbols 0) (step' (symbols 6) (symbols 3))) tt

pub before_plane : (w : Plane) (p : Point) (d : ℤ) → IsPlane w → IsWithin BOX_LIMIT p → d ≡ dot (vector_of w.normal) p -ℤ w.base
    → w.doubt < unsigned_abs d → (test : Bool) → IsTrue test ↔ (d <ℤ pos 0)
    → IsTrue test ↔ (pos 0 <ℤ side p w.b w.c (displaced w.scanner))
before_plane w p d h k e far test is =
    before_by p w.b w.c w.scanner k h.b_within h.c_within m (orientation_is p w.b w.c w.scanner) not_zero test (to, from)
  where
    r : Point
    r = step w.scanner p

    n : Point
    n = cross (step w.scanner w.b) (step w.scanner w.c)

    m : ℤ
    m = neg_ℤ (dot n r)

    same : d ≡ dot (vector_of w.normal) r
    same = e ∙ ap (λ (b : ℤ). dot (vector_of w.normal) p -ℤ b) h.base ∙ base_is (vector_of w.normal) p w.scanner

    within : IsWithin (2 ^ 24) r
    within = step_within w.scanner p h.scanner_within k

    up : pos w.doubt <ℤ d → pos 0 <ℤ dot n r
    up l = h.rounded.above r within (subst (λ (z : ℤ). pos w.doubt <ℤ z) same l)

    down : d <ℤ neg_ℤ (pos w.doubt) → dot n r <ℤ pos 0
    down l = h.rounded.below r within (subst (λ (z : ℤ). z <ℤ neg_ℤ (pos w.doubt)) same l)

    above : pos 0 ≤ℤ d → pos 0 <ℤ dot n r
    above g = up (omega (arith, ints, far, g))

    below : d <ℤ pos 0 → dot n r <ℤ pos 0
    below l = down (omega (arith, ints, far, l))

    to : IsTrue test → pos 0 <ℤ neg_ℤ (dot n r)
    to t = let l = below (is.0 t) in omega (arith, ints, l)

    from : pos 0 <ℤ neg_ℤ (dot n r) → IsTrue test
    from l = by_lt_z d (pos 0) is.1 (λ g. let a = above g in absurd (omega (arith, ints, l, a)))

    not_zero : ¬ (neg_ℤ (dot n r) ≡ pos 0)
    not_zero z =
        by_lt_z d (pos 0) (λ l. let b = below l in absurd (omega (arith, ints, z, b)))
        (λ g. let a = above g in absurd (omega (arith, ints, z, a)))
