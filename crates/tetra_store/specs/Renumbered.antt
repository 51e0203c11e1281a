-- The same cells under other numbers.
--
--   IsPlaced places x n            the list `places` gives the cell with the number x the new number n
--   HasPlace places x              the list `places` gives the cell with the number x some new number
--   AreWithin links n              all neighbors of cells are below n
--   AreAssigned links places from  each number that has a new number has a cell. At each new number the list `from` has
--                                  the old number
--   across_by places o             the place of the neighbor o, if there is one
--   moved places c                 the cell c with the places of its neighbors
--   AreMoved old slots places from n
--                                  the new store has the first n cells of the list `from`, each at its new number with
--                                  the new numbers of its neighbors (`moved`), and no other cells
--   IsRenumbered a b               the links b are the links a under other numbers: each cell of a occurs once in b,
--                                  with the same vertices in their order and the same neighbors under their new
--                                  numbers. No number below that of a cell is free
--   AreKeptMoved places old new n  the first n incident cells, each at its place
use Rattle.std.specs.Prelude.{ℕ, ◌≡◌, ◌<◌, ◌≤◌, ◌^◌, List, [], ◌∷◌, Option, Some, None, length, slice_index, slice_index_or}
use Rattle.tetra_store.specs.declared.link.Cell.{Cell}
use Rattle.tetra_store.specs.Links.{Links, slot_at, IsLive}

-- ---- numbers and places
abbrev pub IsPlaced : List (Option ℕ) → (x n : ℕ) → Type 0
IsPlaced places x n = slice_index_or places x None ≡ Some n

abbrev pub HasPlace : List (Option ℕ) → (x : ℕ) → Type 0
HasPlace places x = (n : ℕ) × IsPlaced places x n

-- all neighbors of cells are below n
abbrev pub AreWithin : Links → (n : ℕ) → Type 0
AreWithin links n = (x k y : ℕ) → IsLive links x → k < 4 → links.next x k ≡ Some y → y < n

-- `from` has the number at each place
pub record AreAssigned (links : Links) (places : List (Option ℕ)) (from : List ℕ) : Type 0 where
  pub forth : (x n : ℕ) → IsPlaced places x n → (n < length from) × (slice_index from n ≡ x)
  pub back : (n : ℕ) → n < length from → IsPlaced places (slice_index from n) n
  pub live : (n : ℕ) → n < length from → IsLive links (slice_index from n)
  -- each place fits
  pub few : length from < 2 ^ 32

-- ---- moved cells
abbrev pub across_by : List (Option ℕ) → Option ℕ → Option ℕ
across_by places None = None
across_by places (Some y) = slice_index_or places y None

abbrev pub moved : List (Option ℕ) → Cell → Cell
moved places c = record {
  v = c.v;
  next = across_by places (slice_index_or c.next 0 None) ∷ across_by places (slice_index_or c.next 1 None)
      ∷ across_by places (slice_index_or c.next 2 None) ∷ across_by places (slice_index_or c.next 3 None) ∷ [];
}

-- a free slot stays free
abbrev pub moved_slot : List (Option ℕ) → Option Cell → Option Cell
moved_slot places None = None
moved_slot places (Some c) = Some (moved places c)

pub record AreMoved (old slots : List (Option Cell)) (places : List (Option ℕ)) (from : List ℕ) (n : ℕ) : Type 0 where
  pub done : (k : ℕ) → k < n → slot_at slots k ≡ moved_slot places (slot_at old (slice_index from k))
  pub left : (k : ℕ) → n ≤ k → slot_at slots k ≡ None

-- ---- links
pub record IsRenumbered (a b : Links) : Type 0 where
  -- the number of before
  pub from : ℕ → ℕ
  pub live : (y : ℕ) → IsLive b y → IsLive a (from y)
  -- each cell of before is there, once
  pub all : (x : ℕ) → IsLive a x → (y : ℕ) × IsLive b y × (from y ≡ x)
  pub once : (y z : ℕ) → IsLive b y → IsLive b z → from y ≡ from z → y ≡ z
  -- with its vertices in their order and the neighbors that it had
  pub same : (y : ℕ) → IsLive b y → b.at y ≡ a.at (from y)
  pub across : (y k z : ℕ) → IsLive b y → k < 4 → b.next y k ≡ Some z → IsLive b z × (a.next (from y) k ≡ Some (from z))
  pub alone : (y k : ℕ) → IsLive b y → k < 4 → b.next y k ≡ None → a.next (from y) k ≡ None
  -- and no number below that of a cell is free
  pub compact : (y z : ℕ) → y < z → IsLive b z → IsLive b y

-- ---- incident cells
-- the first n, each where it is placed
pub record AreKeptMoved (places : List (Option ℕ)) (old new : List ℕ) (n : ℕ) : Type 0 where
  pub count : length new ≡ n
  pub done : (u m : ℕ) → u < n → IsPlaced places (slice_index old u) m → slice_index new u ≡ m
