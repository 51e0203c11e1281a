-- Polynomials over the whole numbers, as they are written.
--
--   Polynomial            a polynomial, built from variables and integers by sums, differences, products and negation
--     variable i            variable number i
--     constant c            the number c
--     sum e f               e + f
--     difference e f        e - f
--     product e f           e times f
--     negation e            -e
--     normal e              e itself, to be multiplied out before it is used, which shortens a long computation
--   number_at numbers i   the number that variable i stands for: the one at place i of the list, and 0 past its end
--   polynomial_value numbers e   the value of e there
use Rattle.std.specs.Prelude.{ℕ, zero, suc, ℤ, pos, neg_ℤ, ◌+ℤ◌, ◌-ℤ◌, ◌*ℤ◌, List, [], ◌∷◌}

-- a polynomial as it is written
pub data Polynomial : Type 0 where
  variable : ℕ → Polynomial
  constant : ℤ → Polynomial
  sum : Polynomial → Polynomial → Polynomial
  difference : Polynomial → Polynomial → Polynomial
  product : Polynomial → Polynomial → Polynomial
  negation : Polynomial → Polynomial
  normal : Polynomial → Polynomial

-- the number that a variable stands for
abbrev pub number_at : List ℤ → ℕ → ℤ
number_at [] i = pos 0
number_at (x ∷ xs) zero = x
number_at (x ∷ xs) (suc i) = number_at xs i

-- the value of a polynomial where its variables stand for these numbers
abbrev pub polynomial_value : List ℤ → Polynomial → ℤ
polynomial_value x (variable i) = number_at x i
polynomial_value x (constant c) = c
polynomial_value x (sum e f) = polynomial_value x e +ℤ polynomial_value x f
polynomial_value x (difference e f) = polynomial_value x e -ℤ polynomial_value x f
polynomial_value x (product e f) = polynomial_value x e *ℤ polynomial_value x f
polynomial_value x (negation e) = neg_ℤ (polynomial_value x e)
polynomial_value x (normal e) = polynomial_value x e
