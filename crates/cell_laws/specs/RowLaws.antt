-- Theorems on the list of all cells, by rows of ascending numbers.
--
--   ListLaw          the rows of the list stand for all cells, each row for one
--   HasOneEach       of the rows exactly one is the cell of a scanner, and for each data point exactly one is towards it and
--                    one behind the sight
--   RowSightLaw      each list of all cells has these cells of scanners and sights
use Rattle.std.specs.Prelude.{ℕ, ◌≤◌, ◌≡◌, List, count_by}
use Rattle.geo_sign.specs.Point.{Point, IsWithin}
use Rattle.geo_sign.specs.declared.point.TheConstants.{CORNERS, DATA_LIMIT}
use Rattle.geo_sign.specs.Rational.{displaced}
use Rattle.geo_sign.specs.Vertices.{Vertices, Has}
use Rattle.geo_sign.specs.Cells.{IsCellList, written}
use Rattle.geo_sign.specs.Sights.{is_towards, is_behind, is_cell_of}
use Rattle.geo_sign.specs.Boxes.{IsBoxed}
use Rattle.cell_laws.specs.Lists.{IsListing}

-- so what is said of cells by names is said of rows
abbrev pub ListLaw : Type 0
ListLaw = (v : Vertices) (rows : List (List ℕ)) → IsCellList v rows → IsListing v rows (written v)

pub record HasOneEach (v : Vertices) (rows : List (List ℕ)) (s : Point) : Type 0 where
  pub scanner : count_by (λ row. is_cell_of v (displaced s) (written v row)) rows ≡ 1
  pub towards : (p : ℕ) → Has v p → CORNERS ≤ p → count_by (λ row. is_towards v p (displaced s) (written v row)) rows ≡ 1
  pub behind : (p : ℕ) → Has v p → CORNERS ≤ p → count_by (λ row. is_behind v p (displaced s) (written v row)) rows ≡ 1

abbrev pub RowSightLaw : Type 0
RowSightLaw =
    (v : Vertices) → IsBoxed v → (rows : List (List ℕ)) → IsCellList v rows → (s : Point) → IsWithin DATA_LIMIT s →
    HasOneEach v rows s
