-- The power of a cell's own vertices, which is zero, and the two ways to write a cell.
use Rattle.std.proofs.Common.{ℕ, ◌≡◌, ◌≤ℤ◌, arith, ℤ, pos, neg_ℤ, List, [], ◌∷◌}
use Rattle.std.proofs.lemmas.Int.{ints}
use Rattle.geo_sign.specs.Polynomial.{Polynomial, variable, constant}
use Rattle.geo_sign.proofs.Ring.{ring}
use Rattle.geo_sign.specs.Point.{Point}
use Rattle.geo_sign.specs.Orientation.{orientation}
use Rattle.geo_sign.specs.Power.{power}
use Rattle.geo_sign.specs.Vertices.{Vertices, orientation_of, power_of}
use Rattle.geo_sign.proofs.Written.{Symbols, symbols, power', coordinates}
use Rattle.geo_sign.proofs.Exchanges.{exchanged_orientation}

abbrev four : (a b c d : Point) (ha hb hc hd : ℤ) → List ℤ
four a b c d ha hb hc hd = coordinates a (coordinates b (coordinates c (coordinates d (ha ∷ hb ∷ hc ∷ hd ∷ []))))

abbrev own' : Symbols → Polynomial → Polynomial
own' p hp = power' (symbols 0) (symbols 3) (symbols 6) (symbols 9) p (variable 12) (variable 13) (variable 14) (variable 15) hp

pub power_of_first : (a b c d : Point) (ha hb hc hd : ℤ) → power a b c d a ha hb hc hd ha ≡ pos 0
unfolding power orientation
power_of_first a b c d ha hb hc hd = ring (four a b c d ha hb hc hd) (own' (symbols 0) (variable 12)) (constant (pos 0)) tt

pub power_of_second : (a b c d : Point) (ha hb hc hd : ℤ) → power a b c d b ha hb hc hd hb ≡ pos 0
unfolding power orientation
power_of_second a b c d ha hb hc hd = ring (four a b c d ha hb hc hd) (own' (symbols 3) (variable 13)) (constant (pos 0)) tt

pub power_of_third : (a b c d : Point) (ha hb hc hd : ℤ) → power a b c d c ha hb hc hd hc ≡ pos 0
unfolding power orientation
power_of_third a b c d ha hb hc hd = ring (four a b c d ha hb hc hd) (own' (symbols 6) (variable 14)) (constant (pos 0)) tt

pub power_of_fourth : (a b c d : Point) (ha hb hc hd : ℤ) → power a b c d d ha hb hc hd hd ≡ pos 0
unfolding power orientation
power_of_fourth a b c d ha hb hc hd = ring (four a b c d ha hb hc hd) (own' (symbols 9) (variable 15)) (constant (pos 0)) tt

-- ---- a cell's own vertices have power zero
not_negative : (z : ℤ) → z ≡ pos 0 → pos 0 ≤ℤ z
not_negative z e = omega (arith, ints)

pub own_first : (v : Vertices) (a b c d u : ℕ) → u ≡ a → pos 0 ≤ℤ power_of v a b c d u
own_first v a b c d u e = grind (arith, ints, not_negative, power_of_first)

pub own_second : (v : Vertices) (a b c d u : ℕ) → u ≡ b → pos 0 ≤ℤ power_of v a b c d u
own_second v a b c d u e = grind (arith, ints, not_negative, power_of_second)

pub own_third : (v : Vertices) (a b c d u : ℕ) → u ≡ c → pos 0 ≤ℤ power_of v a b c d u
own_third v a b c d u e = grind (arith, ints, not_negative, power_of_third)

pub own_fourth : (v : Vertices) (a b c d u : ℕ) → u ≡ d → pos 0 ≤ℤ power_of v a b c d u
own_fourth v a b c d u e = grind (arith, ints, not_negative, power_of_fourth)

-- ---- the last two vertices exchanged
pub last_exchanged : (v : Vertices) (a b c d : ℕ) → orientation_of v a b d c ≡ neg_ℤ (orientation_of v a b c d)
last_exchanged v a b c d = exchanged_orientation (v.at a) (v.at b) (v.at c) (v.at d)
