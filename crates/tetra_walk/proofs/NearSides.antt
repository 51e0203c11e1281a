-- The side of a place near a point, by two signs: that of the point, and where the point is in the plane that of the scanner.
use Rattle.std.proofs.Common.{◌≡◌, ◌⊎◌, inl, inr, ap, ap₂, sym, ◌∙◌, arith, [], ℤ, pos, ◌-ℤ◌}
use Rattle.std.proofs.lemmas.Int.{ints}
use Rattle.geo_sign.specs.declared.point.TheConstants.{BOX_LIMIT, DATA_LIMIT}
use Rattle.geo_sign.specs.Point.{Point, IsWithin}
use Rattle.geo_sign.specs.Orientation.{orientation}
use Rattle.geo_sign.specs.Rational.{side, displaced}
use Rattle.geo_sign.specs.Signs.{sign_of, first_sign, opposite_sign}
use Rattle.geo_sign.specs.declared.sign.Sign.{Sign}
use Rattle.geo_sign.specs.declared.sign.Sign.TheVariants.{Zero}
use Rattle.geo_sign.specs.Polynomial.{variable, difference}
use Rattle.geo_sign.proofs.Ring.{ring}
use Rattle.geo_sign.proofs.Written.{coordinates, orientation', symbols}
use Rattle.geo_sign.specs.NearPlaces.{towards_place, behind_place}
use Rattle.cell_laws.proofs.Scanners.{near_law}

pub towards_side : (a b c p s : Point) → IsWithin BOX_LIMIT a → IsWithin BOX_LIMIT b → IsWithin BOX_LIMIT c
    → IsWithin DATA_LIMIT p → IsWithin DATA_LIMIT s
    → (g h : Sign) → g ≡ sign_of (orientation a b c p) → h ≡ sign_of (side a b c (displaced s))
    → first_sign g h ≡ sign_of (side a b c (towards_place p s))
towards_side a b c p s i j k m n g h e f =
    ap₂ (λ (x y : Sign). first_sign x y) e f ∙ sym ((near_law p s m n).towards_sign a b c i j k)

pub behind_side : (a b c p s : Point) → IsWithin BOX_LIMIT a → IsWithin BOX_LIMIT b → IsWithin BOX_LIMIT c
    → IsWithin DATA_LIMIT p → IsWithin DATA_LIMIT s
    → (g h : Sign) → g ≡ sign_of (orientation a b c p) → h ≡ sign_of (side a b c (displaced s))
    → first_sign g (opposite_sign h) ≡ sign_of (side a b c (behind_place p s))
behind_side a b c p s i j k m n g h e f =
    ap₂ (λ (x y : Sign). first_sign x (opposite_sign y)) e f ∙ sym ((near_law p s m n).behind_sign a b c i j k)

-- ---- a point among the three
first_volume : (a b c : Point) → orientation a b c a ≡ a.x -ℤ a.x
unfolding orientation
first_volume a b c =
    ring (coordinates a (coordinates b (coordinates c []))) (orientation' (symbols 0) (symbols 3) (symbols 6) (symbols 0))
    (difference (variable 0) (variable 0)) tt

second_volume : (a b c : Point) → orientation a b c b ≡ a.x -ℤ a.x
unfolding orientation
second_volume a b c =
    ring (coordinates a (coordinates b (coordinates c []))) (orientation' (symbols 0) (symbols 3) (symbols 6) (symbols 3))
    (difference (variable 0) (variable 0)) tt

third_volume : (a b c : Point) → orientation a b c c ≡ a.x -ℤ a.x
unfolding orientation
third_volume a b c =
    ring (coordinates a (coordinates b (coordinates c []))) (orientation' (symbols 0) (symbols 3) (symbols 6) (symbols 6))
    (difference (variable 0) (variable 0)) tt

nothing : (x : ℤ) → pos 0 ≡ x -ℤ x
nothing x = omega (arith, ints)

-- the four are in one plane
pub own_sign : (a b c p : Point) → (a ≡ p) ⊎ ((b ≡ p) ⊎ (c ≡ p)) → Zero ≡ sign_of (orientation a b c p)
own_sign a b c p (inl e) =
    ap sign_of (nothing a.x ∙ sym (first_volume a b c)) ∙ ap (λ (q : Point). sign_of (orientation a b c q)) e
own_sign a b c p (inr (inl e)) =
    ap sign_of (nothing a.x ∙ sym (second_volume a b c)) ∙ ap (λ (q : Point). sign_of (orientation a b c q)) e
own_sign a b c p (inr (inr e)) =
    ap sign_of (nothing a.x ∙ sym (third_volume a b c)) ∙ ap (λ (q : Point). sign_of (orientation a b c q)) e
