-- Theorems on stores: the vertices of a store, and cells as rows of numbers.
--
--   AllLaw                           the corners and distinct data points, all in, are vertices of the box
--   StoredLaw                        of the corners and distinct data points, those with a flag are inserted
--                                    (`inserted_vertices`). They are vertices of the box. Setting one more flag inserts
--                                    one more vertex. If all flags are set, a list of all cells of these vertices is
--                                    one of all cells of `boxed_vertices`
--   AreRowsOfCells                   each name has one row, the sorted vertex tuple of a cell, and each sorted vertex tuple of
--                                    a cell is that of one name
--   RowLaw                           each name of a listing has one sorted vertex tuple, and each sorted vertex tuple
--                                    of a cell is that of one name
use Rattle.std.specs.Prelude.{ℕ, ◌<◌, ◌≡◌, ◌≢◌, ◌↔◌, ◌+◌, Bool, true, false, Option, List, length, get_or, set, All, AllPairs}
use Rattle.geo_sign.specs.Boxes.{inserted_vertices, IsBoxed, with_vertex}
use Rattle.geo_sign.specs.Point.{Point, IsWithin}
use Rattle.geo_sign.specs.declared.point.TheConstants.{CORNERS, DATA_LIMIT}
use Rattle.geo_sign.specs.Tetrahedron.{Tetrahedron}
use Rattle.geo_sign.specs.Vertices.{Vertices, boxed_vertices}
use Rattle.geo_sign.specs.Cells.{IsCell, IsRisingCell}
use Rattle.cell_laws.specs.LinkLaws.{AreAllCells}
use Rattle.cell_laws.specs.Lists.{IsIn, IsListing}
use Rattle.geo_sign.specs.RowLaws.{IsOneRow, IsRowOf}

-- the box's corners and distinct data points, all in
abbrev pub AllLaw : Type 0
AllLaw =
    (points : List Point) → All (IsWithin DATA_LIMIT) points → AllPairs (λ p q. p ≢ q) points → IsBoxed (boxed_vertices points)

-- let points have a flag each, the corners first. The vertices that the flags state are vertices of the box: if only
-- the corners are inserted, after each further insertion, and if all are inserted
pub record AreStored (points : List Point) (flags : List Bool) : Type 0 where
  pub boxed :
      All (IsWithin DATA_LIMIT) points → AllPairs (λ p q. p ≢ q) points → ((k : ℕ) → k < CORNERS → get_or flags k false ≡ true) →
      IsBoxed (inserted_vertices points flags)
  pub one_more :
      (p : ℕ) → p < length flags → inserted_vertices points (set flags p true) ≡ with_vertex (inserted_vertices points flags) p
  pub all :
      ((u : ℕ) → u < CORNERS + length points → get_or flags u false ≡ true) → (a b c d : ℕ) →
      IsCell (inserted_vertices points flags) a b c d ↔ IsCell (boxed_vertices points) a b c d
  pub whole :
      ((u : ℕ) → u < CORNERS + length points → get_or flags u false ≡ true) →
      (live : List ℕ) (cell : ℕ → Tetrahedron) (next : ℕ → ℕ → Option ℕ) →
      AreAllCells (inserted_vertices points flags) live cell next →
      AreAllCells (boxed_vertices points) live cell next

abbrev pub StoredLaw : Type 0
StoredLaw = (points : List Point) (flags : List Bool) → AreStored points flags

-- names and rows stand for each other
pub record AreRowsOfCells (v : Vertices) (live : List ℕ) (cell : ℕ → Tetrahedron) : Type 0 where
  pub row : (x : ℕ) → IsIn live x → (row : List ℕ) × IsOneRow (cell x) row × IsRisingCell v row
  pub name : (row : List ℕ) → IsRisingCell v row → (x : ℕ) × IsIn live x × IsRowOf (cell x) row
  pub one : (row : List ℕ) (x y : ℕ) → IsIn live x → IsIn live y → IsRowOf (cell x) row → IsRowOf (cell y) row → x ≡ y

abbrev pub RowLaw : Type 0
RowLaw = (v : Vertices) (live : List ℕ) (cell : ℕ → Tetrahedron) → IsListing v live cell → AreRowsOfCells v live cell
