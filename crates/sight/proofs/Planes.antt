-- The side of a facet at a sight's vertex on which the scanner is, by the plane of the sight's line and the facet's last
-- vertex.
--
-- The orientation of p, b, s, a is that of p, a, b, s, which is the first digit of the side of p a b on which the displaced
-- scanner is. So it decides where it is not zero.
use Rattle.std.proofs.Common.{◌≡◌, refl, sym, ap, ◌∙◌, arith, Bool, true, false, true≢false, IsTrue, ◌↔◌, ℤ, pos, ◌<ℤ◌, []}
use Rattle.std.proofs.lemmas.Int.{ints}
use Rattle.geo_sign.specs.declared.point.TheConstants.{BOX_LIMIT}
use Rattle.geo_sign.specs.declared.sign.Sign.{Sign}
use Rattle.geo_sign.specs.declared.sign.Sign.TheVariants.{Neg, Pos}
use Rattle.geo_sign.specs.Orientation.{orientation}
use Rattle.geo_sign.specs.Point.{Point, IsWithin, cross, dot, step}
use Rattle.geo_sign.specs.Rational.{side, displaced}
use Rattle.geo_sign.specs.Signs.{sign_of, first_sign}
use Rattle.geo_sign.proofs.Digits.{scanner_signs}
use Rattle.geo_sign.proofs.Ring.{ring}
use Rattle.geo_sign.proofs.SignTests.{positive_of, negative_of}
use Rattle.geo_sign.proofs.Written.{coordinates, orientation', symbols}
use Rattle.cell_laws.proofs.Heights.{normal_within}

-- the same four points, three of them one on
same_volume : (p a b s : Point) → orientation p b s a ≡ dot (cross (step p a) (step p b)) (step p s)
unfolding orientation
same_volume p a b s =
    ring (coordinates p (coordinates a (coordinates b (coordinates s []))))
    (orientation' (symbols 0) (symbols 6) (symbols 9) (symbols 3))
    (orientation' (symbols 0) (symbols 3) (symbols 6) (symbols 9)) tt

-- the first of the four signs of the side
first_digit : (p a b s : Point) → IsWithin BOX_LIMIT p → IsWithin BOX_LIMIT a → IsWithin BOX_LIMIT b → let n =
    cross (step p a) (step p b) in
    first_sign (first_sign (first_sign (sign_of (orientation p b s a)) (sign_of n.x)) (sign_of n.y)) (sign_of n.z)
    ≡ sign_of (side p a b (displaced s))
first_digit p a b s h i j =
    scanner_signs p a b s (cross (step p a) (step p b)) (orientation p b s a) refl (same_volume p a b s)
    (normal_within p a b h i j)

pub before_of : (p a b s : Point) → IsWithin BOX_LIMIT p → IsWithin BOX_LIMIT a → IsWithin BOX_LIMIT b
    → Pos ≡ sign_of (orientation p b s a) → pos 0 <ℤ side p a b (displaced s)
before_of p a b s h i j e =
    let n = cross (step p a) (step p b) in
    positive_of (side p a b (displaced s))
    (ap (λ (g : Sign). first_sign (first_sign (first_sign g (sign_of n.x)) (sign_of n.y)) (sign_of n.z)) e
    ∙ first_digit p a b s h i j)

pub not_before_of : (p a b s : Point) → IsWithin BOX_LIMIT p → IsWithin BOX_LIMIT a → IsWithin BOX_LIMIT b
    → Neg ≡ sign_of (orientation p b s a) → ¬ (pos 0 <ℤ side p a b (displaced s))
not_before_of p a b s h i j e =
    let n = cross (step p a) (step p b) in
    let m : side p a b (displaced s) <ℤ pos 0 = negative_of (side p a b (displaced s))
    (ap (λ (g : Sign). first_sign (first_sign (first_sign g (sign_of n.x)) (sign_of n.y)) (sign_of n.z)) e
    ∙ first_digit p a b s h i j) in
    λ l. absurd (omega (arith, ints, m, l))

-- ---- the sign of a number that is not zero
positive_sign : (n : ℤ) → pos 0 <ℤ n → Pos ≡ sign_of n
positive_sign n l = grind (arith, ints)

negative_sign : (n : ℤ) → ¬ (n ≡ pos 0) → ¬ (pos 0 <ℤ n) → Neg ≡ sign_of n
negative_sign n h k = grind (arith, ints)

-- where the orientation is not zero, the scanner is on the inner side as it is positive
pub before_by : (p a b s : Point) → IsWithin BOX_LIMIT p → IsWithin BOX_LIMIT a → IsWithin BOX_LIMIT b → (n : ℤ)
    → n ≡ orientation p b s a → ¬ (n ≡ pos 0) → (yes : Bool) → IsTrue yes ↔ (pos 0 <ℤ n)
    → IsTrue yes ↔ (pos 0 <ℤ side p a b (displaced s))
before_by p a b s h i j n e f true is = (
  λ t. before_of p a b s h i j (positive_sign n (is.0 refl) ∙ ap sign_of e),
  λ l. refl,
)
before_by p a b s h i j n e f false is = (
  λ t. absurd (true≢false (sym t)),
  λ l. absurd (not_before_of p a b s h i j (negative_sign n f (λ k. true≢false (sym (is.1 k))) ∙ ap sign_of e) l),
)
