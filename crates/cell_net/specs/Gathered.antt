-- Cells and sides as the code lists them.
--
--   row_at e                 a cell of the store as a sorted vertex tuple with its number
--   side_at e k              side k of a cell as its facet from the smallest vertex on, with the side and the number of
--                            the cell
--   open_at fixed e          the sides of one cell that have a free adjacent cell, in order
--   cut_at outside e         the sides of one cell between outside and inside: those whose neighbor has no flag if the
--                            cell has one, else none
--   all_rows slots           the sorted vertex tuples of all live cells, with the cells' numbers, by ascending number
--   all_open fixed slots     the sides of all live cells that have a free adjacent cell, by ascending number of the
--                            cell and the side
--   all_cut                  the sides of cells with a flag whose neighbor has none, in the order of the store
--   row_key row, facet_key facet
--                            numbers by which sorted vertex tuples and facets are sorted: they ascend with the four
--                            numbers of a cell, and with the three of a facet
use Rattle.std.specs.Prelude.{ℕ, ◌*◌, ◌+◌, ◌++◌, Bool, Option, None, List, [], ◌∷◌, map, slice_index}
use Rattle.std.specs.Prelude.{slice_index_or, if◌then◌else◌}
use Rattle.std.specs.List.{flat_map}
use Rattle.slab.specs.Slab.{entries_from}
use Rattle.cell_net.specs.Arcs.{is_free}
use Rattle.flow_net.specs.Nets.{flag_at}
use Rattle.tetra_store.specs.declared.link.Cell.{Cell}
use Rattle.tetra_store.specs.Links.{tetrahedron_from}
use Rattle.cell_net.specs.declared.rows.Row.{Row}
use Rattle.cell_net.specs.declared.sides.Side.{Side}
use Rattle.cell_net.specs.CellRows.{risen, row_from, facet_row}

-- its vertices in ascending order
abbrev pub row_at : ℕ × Cell → Row
row_at e = record { cell = row_from (risen (tetrahedron_from e.1.v)); id = e.0 }

-- its facet as the cell has it, the least vertex first
abbrev pub side_at : ℕ × Cell → ℕ → Side
side_at e k = record { facet = facet_row (tetrahedron_from e.1.v) k; side = k; id = e.0 }

-- a list of side k of the cell if its adjacent cell is free, else an empty list
unfoldable pub side_if_open : List Bool → ℕ × Cell → ℕ → List Side
side_if_open fixed e k = if is_free fixed (slice_index_or e.1.next k None) then side_at e k ∷ [] else []

-- those of its four sides
abbrev pub open_at : List Bool → ℕ × Cell → List Side
open_at fixed e = side_if_open fixed e 0 ++ (side_if_open fixed e 1 ++ (side_if_open fixed e 2 ++ side_if_open fixed e 3))

-- of a cell that has a flag itself, those whose neighbor has none
unfoldable pub cut_at : List Bool → ℕ × Cell → List Side
cut_at outside e = if flag_at outside e.0 then open_at outside e else []

-- a row for each live cell
abbrev pub all_rows : List (Option Cell) → List Row
all_rows slots = map row_at (entries_from 0 slots)

-- the sides with a free adjacent cell
abbrev pub all_open : List Bool → List (Option Cell) → List Side
all_open fixed slots = flat_map (open_at fixed) (entries_from 0 slots)

-- the sides of outside cells with an inside adjacent cell
abbrev pub all_cut : List Bool → List (Option Cell) → List Side
all_cut outside slots = flat_map (cut_at outside) (entries_from 0 slots)

-- rises with the four numbers, if each is below 2 ^ 32
abbrev pub row_key : List ℕ → ℕ
row_key row =
    (slice_index row 0 * 4294967296 + slice_index row 1) * 18446744073709551616 +
    (slice_index row 2 * 4294967296 + slice_index row 3)

-- the number by which a list of cells is sorted: it ascends with the sorted vertex tuples (`row_key`)
abbrev pub key_of_row : Row → ℕ
key_of_row r = row_key r.cell

-- rises with the three numbers, if each is below 2 ^ 32
abbrev pub facet_key : List ℕ → ℕ
facet_key f = slice_index f 0 * 18446744073709551616 + (slice_index f 1 * 4294967296 + slice_index f 2)

-- the number by which sides are sorted: it ascends with the facet, written from its least number on
abbrev pub key_of_side : Side → ℕ
key_of_side x = facet_key x.facet
