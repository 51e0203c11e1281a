-- The cells of a store and the facets between them, as the store has them.
--
--   stored_cells slots             the vertices of all live cells, by ascending id
--   stored_facets fixed slots      the facets with a free adjacent cell, by ascending id and side
--   stored_complex fixed slots     the sorted vertex tuples of the live cells, by ascending number, and the facets of
--                                  sides with a free adjacent cell
use Rattle.std.specs.Prelude.{ℕ, Bool, List, Option, map}
use Rattle.visibility.specs.Complexes.{Complex}
use Rattle.tetra_store.specs.declared.link.Cell.{Cell}
use Rattle.cell_net.specs.Gathered.{all_rows, all_open}
use Rattle.cell_net.specs.Parts.{cell_of_row, facet_of_side}

-- four vertices each, in ascending order
abbrev pub stored_cells : List (Option Cell) → List (List ℕ)
stored_cells slots = map cell_of_row (all_rows slots)

-- three vertices each, the least first
abbrev pub stored_facets : List Bool → List (Option Cell) → List (List ℕ)
stored_facets fixed slots = map facet_of_side (all_open fixed slots)

-- the rows of the live cells, and the facets of sides with a free adjacent cell
abbrev pub stored_complex : List Bool → List (Option Cell) → Complex
stored_complex fixed slots = record { cells = stored_cells slots; facets = stored_facets fixed slots }
