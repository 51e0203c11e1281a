-- What is said of cells and sides by their numbers in the store, and of cells and facets by their vertices.
--
--   SaysOfCells slots at row              the values by the numbers of cells are those of sorted vertex tuples
--   SaysOfSides slots fixed at facet      the values by the numbers of sides with a free adjacent cell are those of
--                                         facets
--   IsZeroElsewhere slots fixed at        all other sides have 0
use Rattle.std.specs.Prelude.{ℕ, ◌≡◌, ◌<◌, ◌+◌, ◌*◌, Bool, true, false, Option, List}
use Rattle.tetra_store.specs.declared.link.Cell.{Cell}
use Rattle.tetra_store.specs.Links.{links_of, IsLive}
use Rattle.cell_net.specs.Arcs.{is_free}
use Rattle.cell_net.specs.CellRows.{facet_row}
use Rattle.cell_net.specs.Counts.{row_of}

-- as labels or sinks, at the cell's number
abbrev pub SaysOfCells : {X : Type 0} → List (Option Cell) → (ℕ → X) → (List ℕ → X) → Type 0
SaysOfCells slots at row = (id : ℕ) → IsLive (links_of slots) id → at id ≡ row (row_of slots id)

-- as amounts of a flow, at 4 * id + k for side k
abbrev pub SaysOfSides : {X : Type 0} → List (Option Cell) → List Bool → (ℕ → X) → (List ℕ → X) → Type 0
SaysOfSides slots fixed at facet =
    (id k : ℕ) → IsLive (links_of slots) id → k < 4 → is_free fixed ((links_of slots).next id k) ≡ true
    → at (4 * id + k) ≡ facet (facet_row ((links_of slots).at id) k)

-- of sides on a wall, and of those towards a cell fixed outside
abbrev pub IsZeroElsewhere : List (Option Cell) → List Bool → (ℕ → ℕ) → Type 0
IsZeroElsewhere slots fixed at =
    (id k : ℕ) → IsLive (links_of slots) id → k < 4 → is_free fixed ((links_of slots).next id k) ≡ false → at (4 * id + k) ≡ 0
