-- Marks by round numbers.
--
--   IsMarked stamps round x     the entry of x in the list is the number of the round
--   AreStamps stamps round      the number of the round is at least 1, and no entry of the list is greater. A number
--                               past the end of the list has the entry 0, so no round marks it
use Rattle.std.specs.Prelude.{ℕ, ◌≡◌, ◌<◌, ◌≤◌, List, slice_index}

-- the entry of x is the number of the round
abbrev pub IsMarked : List ℕ → (round x : ℕ) → Type 0
IsMarked stamps round x = slice_index stamps x ≡ round

-- No entry is that of a later round. A number without an entry reads as 0, so no round is 0.
pub record AreStamps (stamps : List ℕ) (round : ℕ) : Type 0 where
  pub begun : 0 < round
  pub past : (x : ℕ) → slice_index stamps x ≤ round
