-- Rows of numbers in ascending order, compared number by number.
--
--   IsBefore xs ys           a list of numbers is before another: it is smaller at the first number in which they
--                            differ
--   AllPairs IsBefore xss    (of std) the rows rise strictly
use Rattle.std.specs.Prelude.{ℕ, ◌<◌, ◌≡◌, ◌⊎◌, List, ◌∷◌}

-- Lexicographic order of lists of numbers.
abbrev pub IsBefore : List ℕ → List ℕ → Type 0
IsBefore (a ∷ xs) (b ∷ ys) = (a < b) ⊎ ((a ≡ b) × IsBefore xs ys)
IsBefore _ _ = ⊥
