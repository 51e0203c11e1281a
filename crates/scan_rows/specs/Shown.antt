-- The content of a scan: the points, the scanners, and the list of sights. Each reader of a scan gets this, whatever its
-- encoding.
--
--   Shown              what is seen, however it was written: the points, the scanners, and the list of sights (row,
--                      scanner, weight), row by row, within a row in the order of its indices. A row without a sight
--                      shows its point and no weight
--   sights_in_row n w ks   the sights of the row with the number n, with weight w, from the scanners ks
--   row_seen n row     the sights of the row with the number n, in the order of its scanners
--   seen_from n rows   the sights of rows that are numbered from n on, row by row
--   shown_by rows      what rows show
--   IsSeen p s         a sight of one of p points from one of s scanners, with a valid weight
--   IsNoEarlier, WeighsAlike   a sight is of no earlier row than one before it, and has the same weight in the same row
--   IsShown            the limits of `IsScan`; sights are of points and scanners that are there, in the order of their
--                      points; the sights of a point have one weight
use Rattle.std.specs.Prelude.{ℕ, ◌+◌, ◌≡◌, ◌<◌, ◌≤◌, List, [], ◌∷◌, ◌++◌, length, map, All, AllPairs}
use Rattle.geo_sign.specs.Point.{Point, IsWithin}
use Rattle.geo_sign.specs.declared.point.TheConstants.{DATA_LIMIT}
use Rattle.scan_rows.specs.declared.scan.Seen.{Seen}
use Rattle.scan_rows.specs.ScanRows.{VertexRow, ScanRows, point_limit, scanner_limit, sight_limit, weight_limit}

-- A scan: its points in the order of their rows, its scanner positions, and the observations (which scanner saw which
-- point) in the order of their points.
pub record Shown : Type 0 where
  pub points : List Point
  pub scanners : List Point
  pub seen : List Seen

-- sights of the row with this number: one from each of these scanners, with this weight
abbrev pub sights_in_row : ℕ → ℕ → List ℕ → List Seen
sights_in_row number weight seen_by = map (λ (k : ℕ). record { row = number; scanner = k; weight = weight }) seen_by

-- the sights of the row with this number
abbrev pub row_seen : ℕ → VertexRow → List Seen
row_seen number row = sights_in_row number row.weight row.seen_by

-- the sights of rows that are numbered from a number on, row by row
abbrev pub seen_from : ℕ → List VertexRow → List Seen
seen_from number [] = []
seen_from number (row ∷ rows) = row_seen number row ++ seen_from (number + 1) rows

-- the content of the rows of a scan
abbrev pub shown_by : ScanRows → Shown
shown_by rows = record {
  points = map (λ (row : VertexRow). row.point) rows.vertices;
  scanners = rows.scanners;
  seen = seen_from 0 rows.vertices;
}

-- The observation names an existing point and an existing scanner, and its weight is between 1 and 255.
pub record IsSeen (points scanners : ℕ) (seen : Seen) : Type 0 where
  pub row : seen.row < points
  pub scanner : seen.scanner < scanners
  pub least_weight : 1 ≤ seen.weight
  pub most_weight : seen.weight ≤ weight_limit

-- The second observation is of the same point as the first, or of a later one.
abbrev pub IsNoEarlier : Seen → Seen → Type 0
IsNoEarlier before seen = before.row ≤ seen.row

-- If two observations are of the same point, they have the same weight.
abbrev pub WeighsAlike : Seen → Seen → Type 0
WeighsAlike before seen = before.row ≡ seen.row → before.weight ≡ seen.weight

-- The scan is valid: all coordinates and counts are within the limits, and the observations are valid, sorted by point,
-- with one weight for each point.
pub record IsShown (shown : Shown) : Type 0 where
  pub points : All (IsWithin DATA_LIMIT) shown.points
  pub scanners : All (IsWithin DATA_LIMIT) shown.scanners
  pub seen : All (IsSeen (length shown.points) (length shown.scanners)) shown.seen
  pub in_order : AllPairs IsNoEarlier shown.seen
  pub of_one_weight : AllPairs WeighsAlike shown.seen
  pub point_count : length shown.points ≤ point_limit
  pub scanner_count : length shown.scanners ≤ scanner_limit
  pub sight_count : length shown.seen ≤ sight_limit
