-- The row of a tetrahedron: its sorted vertex tuple. Each positively oriented one has one, and is what `written` makes of it.
--
--   IsRowOf t row        four ascending numbers (the sorted vertex tuple of t): t is an even permutation of them, or of
--                        them with the last two exchanged
--   IsOneRow t row       no other list is the sorted vertex tuple of t
--   IsPositive v t       t is positively oriented
--   IsFirstLeast f       the first number of the facet is below the other two
--   RowsExist            a positive tetrahedron has one row
--   RowsAreWritten       what `written` makes of the row is t reordered by an even permutation
--   RowsAreKept          reordered by an even permutation it has the same row
--   RowsTell             two positive tetrahedra with one row are one, reordered by an even permutation
--   CellsAreRows         the sorted vertex tuple of a cell is an ascending cell. `written` makes a cell of each
--                        ascending cell, and the sorted vertex tuple of that cell is this ascending cell again
--   WrittenFacets        the facets of what `written` makes of an ascending row have their smallest number first
use Rattle.std.specs.Prelude.{ℕ, ◌<◌, ◌≡◌, ◌⊎◌, pos, ◌<ℤ◌, List, [], ◌∷◌}
use Rattle.geo_sign.specs.Tetrahedron.{Tetrahedron, tetrahedron, DirectedFacet, facet_of}
use Rattle.geo_sign.specs.Vertices.{Vertices, orientation_of}
use Rattle.geo_sign.specs.Cells.{IsCell, IsRisingCell, written}
use Rattle.geo_sign.specs.Writings.{IsRewritten}

-- t is reordered by an even permutation to the row, or to the row with its last two numbers exchanged
abbrev pub IsRowOf : Tetrahedron → List ℕ → Type 0
IsRowOf t (a ∷ b ∷ c ∷ d ∷ []) =
    (a < b) × (b < c) × (c < d) × (IsRewritten t (tetrahedron a b c d) ⊎ IsRewritten t (tetrahedron a b d c))
IsRowOf t _ = ⊥

-- a row, and the only one
pub record IsOneRow (t : Tetrahedron) (row : List ℕ) : Type 0 where
  pub is : IsRowOf t row
  pub one : (other : List ℕ) → IsRowOf t other → other ≡ row

-- positively oriented
abbrev pub IsPositive : Vertices → Tetrahedron → Type 0
IsPositive v t = pos 0 <ℤ orientation_of v t.a t.b t.c t.d

-- below both others
abbrev pub IsFirstLeast : DirectedFacet → Type 0
IsFirstLeast f = (f.a < f.b) × (f.a < f.c)

-- each positive tetrahedron has one row
abbrev pub RowsExist : Type 0
RowsExist = (v : Vertices) (t : Tetrahedron) → IsPositive v t → (row : List ℕ) × IsOneRow t row

-- it is the tetrahedron that is written of its row
abbrev pub RowsAreWritten : Type 0
RowsAreWritten =
    (v : Vertices) (t : Tetrahedron) (row : List ℕ) → IsPositive v t → IsRowOf t row → IsRewritten t (written v row)

-- the row does not depend on the writing
abbrev pub RowsAreKept : Type 0
RowsAreKept = (t r : Tetrahedron) (row : List ℕ) → IsRewritten t r → IsRowOf t row → IsRowOf r row

-- the row determines it
abbrev pub RowsTell : Type 0
RowsTell =
    (v : Vertices) (t r : Tetrahedron) (row : List ℕ) → IsPositive v t → IsPositive v r → IsRowOf t row → IsRowOf r row
    → IsRewritten t r

-- cells in any writing and ascending cells, from each to the other
pub record CellsAreRows : Type 0 where
  pub row : (v : Vertices) (t : Tetrahedron) (row : List ℕ) → IsCell v t.a t.b t.c t.d → IsRowOf t row → IsRisingCell v row
  pub cell : (v : Vertices) (row : List ℕ) → IsRisingCell v row
      → IsCell v (written v row).a (written v row).b (written v row).c (written v row).d
  pub back : (v : Vertices) (row : List ℕ) → IsRisingCell v row → IsRowOf (written v row) row

-- of a row of any tetrahedron, whatever the vertices are
abbrev pub WrittenFacets : Type 0
WrittenFacets =
    (v : Vertices) (t : Tetrahedron) (row : List ℕ) → IsRowOf t row → (k : ℕ) → IsFirstLeast (facet_of (written v row) k)
