-- The parts of rows and sides, and numbers by which the elements of a list are distinguished.
--
--   id_of_row r                 of a sorted vertex tuple with its cell's number: the number
--   cell_of_row r               the tuple
--   facet_of_side x             the facet of a side
--   number_of_side x            the number of a side among all sides, 4 * id + side
--   AreDistinctBy f xs          the function f gives no two elements of the list one number
use Rattle.std.specs.Prelude.{ℕ, ◌≡◌, ◌<◌, ◌+◌, ◌*◌, List, length, slice_index_or}
use Rattle.cell_net.specs.declared.rows.Row.{Row}
use Rattle.cell_net.specs.declared.sides.Side.{Side}

-- the number that the store has for it
abbrev pub id_of_row : Row → ℕ
id_of_row r = r.id

-- its four vertices
abbrev pub cell_of_row : Row → List ℕ
cell_of_row r = r.cell

-- its three vertices, the least first
abbrev pub facet_of_side : Side → List ℕ
facet_of_side x = x.facet

-- four sides a cell
abbrev pub number_of_side : Side → ℕ
number_of_side x = 4 * x.id + x.side

-- equal numbers are those of one element
abbrev pub AreDistinctBy : {X : Type 0} → (X → ℕ) → List X → Type 0
AreDistinctBy {X} f xs =
    (i j : ℕ) (d : X) → i < length xs → j < length xs → f (slice_index_or xs i d) ≡ f (slice_index_or xs j d) → i ≡ j
