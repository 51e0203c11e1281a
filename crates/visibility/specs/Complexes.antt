-- Lists of cells and of directed facets, each by its vertex numbers.
--
--   Complex                  a list of cells and a list of directed facets
--   has_facet v row f        the cell has the directed facet
--   HasFacet v cells f       some cell of the list has it
--   cell_index v cells f     the index of the first cell that has it
--   cell_of v cells f        that cell
use Rattle.std.specs.Prelude.{ℕ, ◌≡◌, Bool, true, List, [], slice_index_or}
use Rattle.std.specs.List.{Any, position_or_len}
use Rattle.geo_sign.specs.Tetrahedron.{DirectedFacet, is_among}
use Rattle.geo_sign.specs.Vertices.{Vertices}
use Rattle.geo_sign.specs.Cells.{written}

-- Two lists: cells, each as four ascending numbers, and directed facets, each as three numbers with the smallest first.
pub record Complex : Type 0 where
  pub cells : List (List ℕ)
  pub facets : List (List ℕ)

-- Tests whether f is a directed facet of the cell.
abbrev pub has_facet : Vertices → List ℕ → DirectedFacet → Bool
has_facet v row f = is_among (written v row) f

-- Some listed cell has the directed facet f.
abbrev pub HasFacet : Vertices → List (List ℕ) → DirectedFacet → Type 0
HasFacet v cells f = Any (λ row. has_facet v row f ≡ true) cells

-- The index of the first listed cell that has the directed facet f, or the length of the list if there is none.
abbrev pub cell_index : Vertices → List (List ℕ) → DirectedFacet → ℕ
cell_index v cells f = position_or_len (λ row. has_facet v row f) cells

-- The cell that has the directed facet f: the cell on its positive side, or the empty list if there is none.
abbrev pub cell_of : Vertices → List (List ℕ) → DirectedFacet → List ℕ
cell_of v cells f = slice_index_or cells (cell_index v cells f) []
