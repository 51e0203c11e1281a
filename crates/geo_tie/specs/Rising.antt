-- The cells before a key.
--
--   all_at points                  vertices at these points, numbered in order, all inserted
--   IsCellListBefore v key rows    the list of the cells that come before a key, which may be shorter than a cell
use Rattle.std.specs.Prelude.{ℕ, true, List, length, get_or, AllPairs, Contains}
use Rattle.geo_sign.specs.Point.{Point, origin}
use Rattle.geo_sign.specs.Tie.{height}
use Rattle.geo_sign.specs.Vertices.{Vertices}
use Rattle.geo_sign.specs.Cells.{IsRisingCell}
use Rattle.geo_sign.specs.Rising.{IsBefore}

-- the vertices at these points, numbered in order, all of them inserted
abbrev pub all_at : List Point → Vertices
all_at points =
    record {
      at = λ u. get_or points u origin;
      high = λ u. height (length points) u (get_or points u origin);
      count = length points;
      is_in = λ _. true;
    }

-- each cell that comes before the key once, as its sorted vertex tuple, in ascending order
pub record IsCellListBefore (v : Vertices) (key : List ℕ) (rows : List (List ℕ)) : Type 0 where
  pub rising : AllPairs IsBefore rows
  pub cells : (row : List ℕ) → Contains rows row → IsRisingCell v row
  pub before : (row : List ℕ) → Contains rows row → IsBefore row key
  pub all : (row : List ℕ) → IsRisingCell v row → IsBefore row key → Contains rows row
