-- Orientations, powers and sides with their points in another order, or with two of them equal. Each is an identity of
-- polynomials: even orders give the same number, odd ones the opposite, and equal points give zero. The side of a point is its
-- orientation.
use Rattle.std.proofs.Common.{◌≡◌, ℤ, pos, neg_ℤ, List, [], ◌∷◌}
use Rattle.geo_sign.specs.Polynomial.{Polynomial, constant, negation, variable}
use Rattle.geo_sign.specs.Point.{Point}
use Rattle.geo_sign.specs.Orientation.{orientation}
use Rattle.geo_sign.specs.Power.{power}
use Rattle.geo_sign.specs.Rational.{RationalPoint, side, rational}
use Rattle.geo_sign.proofs.Ring.{ring}
use Rattle.geo_sign.proofs.Written.{coordinates, orientation', power', side', RationalSymbols, symbols}

-- ---- orientation
abbrev four : Point → Point → Point → Point → List ℤ
four a b c d = coordinates a (coordinates b (coordinates c (coordinates d [])))

-- of the points 0, 1, 2, 3 in their order
abbrev plain : Polynomial
plain = orientation' (symbols 0) (symbols 3) (symbols 6) (symbols 9)

pub spin_orientation : (a b c d : Point) → orientation b c a d ≡ orientation a b c d
unfolding orientation
spin_orientation a b c d = ring (four a b c d) (orientation' (symbols 3) (symbols 6) (symbols 0) (symbols 9)) plain tt

pub swap_orientation : (a b c d : Point) → orientation b a d c ≡ orientation a b c d
unfolding orientation
swap_orientation a b c d = ring (four a b c d) (orientation' (symbols 3) (symbols 0) (symbols 9) (symbols 6)) plain tt

pub turned_orientation : (a b c d : Point) → orientation a c b d ≡ neg_ℤ (orientation a b c d)
unfolding orientation
turned_orientation a b c d =
    ring (four a b c d) (orientation' (symbols 0) (symbols 6) (symbols 3) (symbols 9)) (negation plain) tt

pub exchanged_orientation : (a b c d : Point) → orientation a b d c ≡ neg_ℤ (orientation a b c d)
unfolding orientation
exchanged_orientation a b c d =
    ring (four a b c d) (orientation' (symbols 0) (symbols 3) (symbols 9) (symbols 6)) (negation plain) tt

-- two of the four points are one
abbrev three : Point → Point → Point → List ℤ
three a b c = coordinates a (coordinates b (coordinates c []))

pub flat_first : (a c d : Point) → orientation a a c d ≡ pos 0
unfolding orientation
flat_first a c d = ring (three a c d) (orientation' (symbols 0) (symbols 0) (symbols 3) (symbols 6)) (constant (pos 0)) tt

pub flat_second : (a b d : Point) → orientation a b a d ≡ pos 0
unfolding orientation
flat_second a b d = ring (three a b d) (orientation' (symbols 0) (symbols 3) (symbols 0) (symbols 6)) (constant (pos 0)) tt

pub flat_third : (a b d : Point) → orientation a b b d ≡ pos 0
unfolding orientation
flat_third a b d = ring (three a b d) (orientation' (symbols 0) (symbols 3) (symbols 3) (symbols 6)) (constant (pos 0)) tt

pub flat_a : (a b c : Point) → orientation a b c a ≡ pos 0
unfolding orientation
flat_a a b c = ring (three a b c) (orientation' (symbols 0) (symbols 3) (symbols 6) (symbols 0)) (constant (pos 0)) tt

pub flat_b : (a b c : Point) → orientation a b c b ≡ pos 0
unfolding orientation
flat_b a b c = ring (three a b c) (orientation' (symbols 0) (symbols 3) (symbols 6) (symbols 3)) (constant (pos 0)) tt

pub flat_c : (a b c : Point) → orientation a b c c ≡ pos 0
unfolding orientation
flat_c a b c = ring (three a b c) (orientation' (symbols 0) (symbols 3) (symbols 6) (symbols 6)) (constant (pos 0)) tt

-- ---- power
abbrev five : (a b c d p : Point) (ha hb hc hd hp : ℤ) → List ℤ
five a b c d p ha hb hc hd hp =
    coordinates a (coordinates b (coordinates c (coordinates d (coordinates p (ha ∷ hb ∷ hc ∷ hd ∷ hp ∷ [])))))

abbrev plain_lifted : Polynomial
plain_lifted =
    power' (symbols 0) (symbols 3) (symbols 6) (symbols 9) (symbols 12) (variable 15) (variable 16) (variable 17) (variable 18)
    (variable 19)

pub spin_power : (a b c d p : Point) (ha hb hc hd hp : ℤ) → power b c a d p hb hc ha hd hp ≡ power a b c d p ha hb hc hd hp
unfolding orientation power
spin_power a b c d p ha hb hc hd hp =
    ring (five a b c d p ha hb hc hd hp)
    (power' (symbols 3) (symbols 6) (symbols 0) (symbols 9) (symbols 12) (variable 16) (variable 17) (variable 15) (variable 18)
    (variable 19)) plain_lifted tt

pub swap_power : (a b c d p : Point) (ha hb hc hd hp : ℤ) → power b a d c p hb ha hd hc hp ≡ power a b c d p ha hb hc hd hp
unfolding orientation power
swap_power a b c d p ha hb hc hd hp =
    ring (five a b c d p ha hb hc hd hp)
    (power' (symbols 3) (symbols 0) (symbols 9) (symbols 6) (symbols 12) (variable 16) (variable 15) (variable 18) (variable 17)
    (variable 19)) plain_lifted tt

-- the fifth vertex exchanged with the fourth
pub exchanged_power : (a b c d p : Point) (ha hb hc hd hp : ℤ)
    → power a b c p d ha hb hc hp hd ≡ neg_ℤ (power a b c d p ha hb hc hd hp)
unfolding orientation power
exchanged_power a b c d p ha hb hc hd hp =
    ring (five a b c d p ha hb hc hd hp)
    (power' (symbols 0) (symbols 3) (symbols 6) (symbols 12) (symbols 9) (variable 15) (variable 16) (variable 17) (variable 19)
    (variable 18)) (negation plain_lifted) tt

pub turned_power : (a b c d p : Point) (ha hb hc hd hp : ℤ)
    → power a c b d p ha hc hb hd hp ≡ neg_ℤ (power a b c d p ha hb hc hd hp)
unfolding orientation power
turned_power a b c d p ha hb hc hd hp =
    ring (five a b c d p ha hb hc hd hp)
    (power' (symbols 0) (symbols 6) (symbols 3) (symbols 9) (symbols 12) (variable 15) (variable 17) (variable 16) (variable 18)
    (variable 19)) (negation plain_lifted) tt

-- ---- side
abbrev three_and_place : Point → Point → Point → RationalPoint → List ℤ
three_and_place a b c q = coordinates a (coordinates b (coordinates c (coordinates q.at (q.over ∷ []))))

-- the place behind three points
abbrev place : RationalSymbols
place = record { at = symbols 9; over = variable 12 }

pub round_side : (a b c : Point) (q : RationalPoint) → side b c a q ≡ side a b c q
unfolding side
round_side a b c q =
    ring (three_and_place a b c q) (side' (symbols 3) (symbols 6) (symbols 0) place)
    (side' (symbols 0) (symbols 3) (symbols 6) place) tt

pub turned_side : (a b c : Point) (q : RationalPoint) → side a c b q ≡ neg_ℤ (side a b c q)
unfolding side
turned_side a b c q =
    ring (three_and_place a b c q) (side' (symbols 0) (symbols 6) (symbols 3) place)
    (negation (side' (symbols 0) (symbols 3) (symbols 6) place)) tt

-- a point lies on the side that its orientation says
pub point_side : (a b c u : Point) → side a b c (rational u) ≡ orientation a b c u
unfolding side orientation
point_side a b c u =
    ring (coordinates a (coordinates b (coordinates c (coordinates u []))))
    (side' (symbols 0) (symbols 3) (symbols 6) (record { at = symbols 9; over = constant (pos 1) }))
    (orientation' (symbols 0) (symbols 3) (symbols 6) (symbols 9)) tt
