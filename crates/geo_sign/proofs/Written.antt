-- The words of specs/ as polynomials, for identities that are proved by multiplying out. Each word with a prime mirrors the
-- word without it, in exactly its shape, so that the value of the one computes to the other.
--
--   Symbols, symbols i      a place whose coordinates are polynomials: the variables i, i + 1, i + 2
--   A, B, C, D, P           the first five of these places
--   RationalSymbols            such a place over a polynomial
--   coordinates a numbers   the list of numbers for variables that begins with the coordinates of a
use Rattle.std.proofs.Common.{ℕ, ◌+◌, ℤ, List, ◌∷◌}
use Rattle.geo_sign.specs.Polynomial.{Polynomial, variable, sum, difference, product, normal}
use Rattle.geo_sign.specs.Point.{Point}

pub record Symbols : Type 0 where
  pub x : Polynomial
  pub y : Polynomial
  pub z : Polynomial

abbrev pub symbols : ℕ → Symbols
symbols i = record { x = variable i; y = variable (i + 1); z = variable (i + 2) }

abbrev pub A : Symbols
A = symbols 0

abbrev pub B : Symbols
B = symbols 3

abbrev pub C : Symbols
C = symbols 6

abbrev pub D : Symbols
D = symbols 9

abbrev pub P : Symbols
P = symbols 12

pub record RationalSymbols : Type 0 where
  pub at : Symbols
  pub over : Polynomial

abbrev pub coordinates : Point → List ℤ → List ℤ
coordinates a numbers = a.x ∷ a.y ∷ a.z ∷ numbers

abbrev pub step' : Symbols → Symbols → Symbols
step' a b = record { x = difference b.x a.x; y = difference b.y a.y; z = difference b.z a.z }

abbrev pub cross' : Symbols → Symbols → Symbols
cross' u v =
    record {
      x = difference (product u.y v.z) (product u.z v.y);
      y = difference (product u.z v.x) (product u.x v.z);
      z = difference (product u.x v.y) (product u.y v.x);
    }

abbrev pub dot' : Symbols → Symbols → Polynomial
dot' u v = sum (sum (product u.x v.x) (product u.y v.y)) (product u.z v.z)

abbrev pub square' : Symbols → Polynomial
square' u = dot' u u

abbrev pub orientation' : (a b c d : Symbols) → Polynomial
orientation' a b c d = normal (dot' (cross' (step' a b) (step' a c)) (step' a d))

abbrev pub power' : (a b c d p : Symbols) (ha hb hc hd hp : Polynomial) → Polynomial
power' a b c d p ha hb hc hd hp =
    difference (product (orientation' a b c d) hp)
    (sum (sum (sum (product ha (orientation' p b c d)) (product hb (orientation' a p c d))) (product hc (orientation' a b p d)))
    (product hd (orientation' a b c p)))

abbrev pub side' : (a b c : Symbols) → RationalSymbols → Polynomial
side' a b c q =
    normal (dot' (cross' (step' a b) (step' a c))
    (record {
      x = difference q.at.x (product q.over a.x);
      y = difference q.at.y (product q.over a.y);
      z = difference q.at.z (product q.over a.z);
    }))
