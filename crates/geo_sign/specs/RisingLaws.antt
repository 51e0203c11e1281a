-- That an ascending list is given by what it contains.
--
--   RisingLaw      two ascending lists with the same members are one list
--   CellListLaw    so are two lists of all cells
use Rattle.std.specs.Prelude.{ℕ, ◌≡◌, ◌↔◌, List, AllPairs, Contains}
use Rattle.geo_sign.specs.Vertices.{Vertices}
use Rattle.geo_sign.specs.Cells.{IsCellList}
use Rattle.geo_sign.specs.Rising.{IsBefore}

-- two ascending lists with the same members are equal
abbrev pub RisingLaw : Type 0
RisingLaw =
    (xs ys : List (List ℕ)) → AllPairs IsBefore xs → AllPairs IsBefore ys → ((row : List ℕ) → Contains xs row ↔ Contains ys row)
    → xs ≡ ys

-- two lists of all cells of the same vertices are equal
abbrev pub CellListLaw : Type 0
CellListLaw = (v : Vertices) (rows others : List (List ℕ)) → IsCellList v rows → IsCellList v others → rows ≡ others
