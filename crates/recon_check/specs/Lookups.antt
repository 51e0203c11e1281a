-- Rows found by their keys, and what is noted of them.
--
--   least_number key              the first number of a key, which is its smallest one
--   AreStarts keys starts         for each number n, the list has the index of the first key whose first number is at
--                                 least n
--   IsNoted keys key n old new    the number n was written at each index at which the list of keys has this key. All
--                                 other entries are as before
--   AreNumbersOf is_there key_at keys numbers
--                                 for each key the list has the number of a cell or side that exists (`is_there`) and
--                                 has this key (`key_at`)
--   AreFound limit upto is_there key_at keys numbers
--                                 for each key the list has the number of a cell or side that has this key, or a number
--                                 that is at least the limit. The latter only if no cell or side with a number below
--                                 `upto` has this key
--   side_facet slots j            the facet of the side with the number j, from its smallest vertex on
--   is_open_side slots fixed j    whether the adjacent cell at the side with the number j exists and is free
--   AreCellsFound slots limit upto keys numbers
--                                 `AreFound` for the live cells, whose keys are their sorted vertex tuples
--   AreSidesFound slots fixed limit upto keys numbers
--                                 `AreFound` for the sides that have a free adjacent cell, whose keys are their facets
--   AreNumbersApart numbers       no two numbers of the list are equal
use Rattle.std.specs.Prelude.{ℕ, ◌≡◌, ◌≢◌, ◌<◌, ◌≤◌, ◌/◌, ◌%◌, Bool, true, Option, List, [], length, slice_index, slice_index_or}
use Rattle.cell_net.specs.Arcs.{across, is_free}
use Rattle.tetra_store.specs.Links.{links_of}
use Rattle.tetra_store.specs.declared.link.Cell.{Cell}
use Rattle.cell_net.specs.CellRows.{facet_row}
use Rattle.cell_net.specs.Counts.{row_of}

-- 0 where there is none
abbrev pub least_number : List ℕ → ℕ
least_number key = slice_index key 0

-- keys before the index of a number begin with a lesser one, and those from it on with that number or a greater one
pub record AreStarts (keys : List (List ℕ)) (starts : List ℕ) : Type 0 where
  pub within : (n : ℕ) → n < length starts → slice_index starts n ≤ length keys
  pub below : (n k : ℕ) → n < length starts → k < slice_index starts n → least_number (slice_index_or keys k []) < n
  pub above : (n k : ℕ) → n < length starts → slice_index starts n ≤ k → k < length keys → n ≤ least_number (slice_index_or keys k [])

-- keys and numbers have the same indices
pub record IsNoted (keys : List (List ℕ)) (key : List ℕ) (number : ℕ) (old new : List ℕ) : Type 0 where
  pub count : length new ≡ length old
  pub here : (k : ℕ) → k < length keys → slice_index_or keys k [] ≡ key → slice_index new k ≡ number
  pub kept : (k : ℕ) → slice_index_or keys k [] ≢ key → slice_index new k ≡ slice_index old k

-- of what is there and has the key
pub record AreNumbersOf (is_there : ℕ → Bool) (key_at : ℕ → List ℕ) (keys : List (List ℕ)) (numbers : List ℕ) : Type 0 where
  pub count : length numbers ≡ length keys
  pub there : (k : ℕ) → k < length numbers → is_there (slice_index numbers k) ≡ true
  pub key : (k : ℕ) → k < length numbers → slice_index_or keys k [] ≡ key_at (slice_index numbers k)

-- what is there below upto was looked up
pub record AreFound (limit upto : ℕ) (is_there : ℕ → Bool) (key_at : ℕ → List ℕ) (keys : List (List ℕ)) (numbers : List ℕ)
    : Type 0 where
  pub count : length numbers ≡ length keys
  pub there : (k : ℕ) → k < length keys → slice_index numbers k < limit → is_there (slice_index numbers k) ≡ true
  pub key : (k : ℕ) → k < length keys → slice_index numbers k < limit → slice_index_or keys k [] ≡ key_at (slice_index numbers k)
  pub all : (j k : ℕ) → j < upto → is_there j ≡ true → k < length keys → slice_index_or keys k [] ≡ key_at j
      → slice_index numbers k < limit

-- the least vertex first
abbrev pub side_facet : List (Option Cell) → ℕ → List ℕ
side_facet slots j = facet_row ((links_of slots).at (j / 4)) (j % 4)

-- the adjacent cell is free
abbrev pub is_open_side : List (Option Cell) → List Bool → ℕ → Bool
is_open_side slots fixed j = is_free fixed (across slots j)

-- the live cells as what is there
abbrev pub AreCellsFound : List (Option Cell) → (limit upto : ℕ) → (keys : List (List ℕ)) → List ℕ → Type 0
AreCellsFound slots limit upto = AreFound limit upto (links_of slots).is_live (row_of slots)

-- the sides whose adjacent cell is free
abbrev pub AreSidesFound : List (Option Cell) → List Bool → (limit upto : ℕ) → (keys : List (List ℕ)) → List ℕ → Type 0
AreSidesFound slots fixed limit upto = AreFound limit upto (is_open_side slots fixed) (side_facet slots)

-- no two numbers are equal
abbrev pub AreNumbersApart : List ℕ → Type 0
AreNumbersApart numbers =
    (i j : ℕ) → i < length numbers → j < length numbers → slice_index numbers i ≡ slice_index numbers j → i ≡ j
