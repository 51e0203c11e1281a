-- The content of a file as a scan: the rows of its points and the rows of its scanners.
--
--   VertexRow        a vertex row has a point, a weight and the indices of the scanners that saw it
--   ScanRows         what a file states: vertex rows and the positions of the scanners
--   point_limit, scanner_limit, sight_limit, weight_limit   2^20, 2^16, 2^23, 255 (constants of the code)
--   IsVertexRow n    a data point with a weight, seen by some of n scanners
--   sights_in        the number of sights of rows
--   IsScan           coordinates within 2,097,151; weights from 1 to 255; each index below the number of scanners; at
--                    most 65,536 scanners, 1,048,576 vertex rows and 8,388,608 sights
use Rattle.scan_rows.specs.declared.scan.TheConstants.{POINT_LIMIT, SCANNER_LIMIT, SIGHT_LIMIT, SIGHT_WEIGHT_LIMIT}
use Rattle.std.specs.Prelude.{ℕ, ◌<◌, ◌≤◌, List, length, All, sum_by}
use Rattle.geo_sign.specs.Point.{Point, IsWithin}
use Rattle.geo_sign.specs.declared.point.TheConstants.{DATA_LIMIT}

-- One row of the element `vertex` in a scan file: a point, the weight of its lines of sight, and for each of these the
-- index of its scanner, counted from 0.
pub record VertexRow : Type 0 where
  pub point : Point
  pub weight : ℕ
  pub seen_by : List ℕ

-- The rows of a scan file: points first, then scanners.
pub record ScanRows : Type 0 where
  pub vertices : List VertexRow
  pub scanners : List Point

-- The maximal number of vertex rows of a scan: 2^20.
abbrev pub point_limit : ℕ
point_limit = POINT_LIMIT

-- The maximal number of scanner rows of a scan: 2^16.
abbrev pub scanner_limit : ℕ
scanner_limit = SCANNER_LIMIT

-- The maximal number of lines of sight of a scan: 2^23.
abbrev pub sight_limit : ℕ
sight_limit = SIGHT_LIMIT

-- The largest weight of a row: 255.
abbrev pub weight_limit : ℕ
weight_limit = SIGHT_WEIGHT_LIMIT

-- a data point (no coordinate over 2 ^ 21 - 1) with a weight of 1 to 255, seen by some of this number of scanners
pub record IsVertexRow (scanners : ℕ) (row : VertexRow) : Type 0 where
  pub data_point : IsWithin DATA_LIMIT row.point
  pub least_weight : 1 ≤ row.weight
  pub most_weight : row.weight ≤ weight_limit
  pub scanners_there : All (λ k. k < scanners) row.seen_by

-- the number of sights of the rows: one for each number of a scanner
abbrev pub sights_in : List VertexRow → ℕ
sights_in rows = sum_by (λ (row : VertexRow). length row.seen_by) rows

-- data points alone, each seen by existing scanners, and no more points, scanners and sights than a scan may have
pub record IsScan (rows : ScanRows) : Type 0 where
  pub vertices : All (IsVertexRow (length rows.scanners)) rows.vertices
  pub scanners : All (IsWithin DATA_LIMIT) rows.scanners
  pub vertex_count : length rows.vertices ≤ point_limit
  pub scanner_count : length rows.scanners ≤ scanner_limit
  pub sight_count : sights_in rows.vertices ≤ sight_limit
