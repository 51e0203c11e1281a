-- Disjoint sets of numbers, as paths to one number of each.
--
--   IsTop parents i top        the path from i, from each number to its parent, ends in top, which is its own parent
--   AreTogether parents i j    both have a parent, and both paths end in one number: i and j are in one set
--   IsFirstOfSet parents i     i is the smallest number of its set
--   IsForest parents           the parent of each number is not greater
--   IsMerge i j old new        the sets of i and j became one, and all others are as they were
use Rattle.std.specs.Prelude.{ℕ, ◌≡◌, ◌<◌, ◌≤◌, ◌⊎◌, List, length, slice_index}

-- the path from i ends in top
pub data IsTop (parents : List ℕ) : (i top : ℕ) → Type 0 where
  here : {i : ℕ} → slice_index parents i ≡ i → IsTop parents i i
  up : {i top : ℕ} → IsTop parents (slice_index parents i) top → IsTop parents i top

-- both have a parent, and both paths end in one number
pub record AreTogether (parents : List ℕ) (i j : ℕ) : Type 0 where
  pub one_in : i < length parents
  pub other_in : j < length parents
  pub top : ℕ
  pub one : IsTop parents i top
  pub other : IsTop parents j top

-- no smaller number is in its set
abbrev pub IsFirstOfSet : List ℕ → ℕ → Type 0
IsFirstOfSet parents i = (j : ℕ) → j < i → AreTogether parents i j → ⊥

-- the parent of each number is not greater
abbrev pub IsForest : List ℕ → Type 0
IsForest parents = (i : ℕ) → i < length parents → slice_index parents i ≤ i

-- Two numbers are together where they were, or where one was in the set of i and the other in that of j.
pub record IsMerge (i j : ℕ) (old new : List ℕ) : Type 0 where
  pub count : length new ≡ length old
  pub merged : AreTogether new i j
  pub kept : (a b : ℕ) → AreTogether old a b → AreTogether new a b
  pub only :
      (a b : ℕ) → AreTogether new a b
      → AreTogether old a b
      ⊎ ((AreTogether old a i × AreTogether old b j) ⊎ (AreTogether old a j × AreTogether old b i))
