-- Numbers in a range, and the three that name a directed facet.
--
--   IsBetween           from the least number to the greatest, both included
--   IsFacetRow f        three distinct numbers of 32 bits, the smallest first
use Rattle.std.specs.Prelude.{ℕ, ◌≡◌, ◌<◌, ◌≤◌, ◌^◌, List, [], ◌∷◌}

-- a number from the least to the greatest, both included
abbrev pub IsBetween : ℕ → ℕ → ℕ → Type 0
IsBetween least greatest n = (least ≤ n) × (n ≤ greatest)

-- three distinct vertex numbers, the smallest first
abbrev pub IsFacetRow : List ℕ → Type 0
IsFacetRow (a ∷ b ∷ c ∷ []) = (a < b) × (a < c) × (¬ (b ≡ c)) × (b < 2 ^ 32) × (c < 2 ^ 32)
IsFacetRow _ = ⊥
