-- When five numbered points may be tested for conflict.
--
--   OfFour cell P           an argument of `conflict`: a list of four numbered points
--   AreApart a b c d p      of five numbers: no two are equal
--   AreBelow n              all are below n
use Rattle.std.specs.Prelude.{ℕ, ◌<◌, ◌≢◌, List, [], ◌∷◌}
use Rattle.geo_sign.specs.Point.{Point}

-- the list has four vertices, each a number and its point, and P holds of them
abbrev pub OfFour : List (ℕ × Point) → ((a b c d : ℕ × Point) → Type 0) → Type 0
OfFour (a ∷ b ∷ c ∷ d ∷ []) P = P a b c d
OfFour _ P = ⊥

-- no two of the five numbers are equal
pub record AreApart (a b c d p : ℕ × Point) : Type 0 where
  pub a_b : a.0 ≢ b.0
  pub a_c : a.0 ≢ c.0
  pub a_d : a.0 ≢ d.0
  pub a_p : a.0 ≢ p.0
  pub b_c : b.0 ≢ c.0
  pub b_d : b.0 ≢ d.0
  pub b_p : b.0 ≢ p.0
  pub c_d : c.0 ≢ d.0
  pub c_p : c.0 ≢ p.0
  pub d_p : d.0 ≢ p.0

-- each of the five numbers is below n
pub record AreBelow (n : ℕ) (a b c d p : ℕ × Point) : Type 0 where
  pub a_below : a.0 < n
  pub b_below : b.0 < n
  pub c_below : c.0 < n
  pub d_below : d.0 < n
  pub p_below : p.0 < n
