-- Properties of the distinct points of rows.
--
--   StandsAt points p       a point is at its index
--   EachRowHasAnIndex       each row's point is at its index among the distinct points
--   MergedPointsAreFew      there are no more distinct points than rows
--   MergedPointsAreWithin   no coordinate of a distinct point exceeds a bound that holds for all rows' points
use Rattle.std.specs.Prelude.{ℕ, ◌≡◌, ◌<◌, ◌≤◌, Some, List, length, slice_get, All}
use Rattle.geo_sign.specs.Point.{Point, IsWithin}
use Rattle.merge.specs.Merging.{distinct_points, index_among}

-- the point is in the list, at its index
abbrev pub StandsAt : List Point → Point → Type 0
StandsAt points p = (index_among points p < length points) × (slice_get points (index_among points p) ≡ Some p)

abbrev pub EachRowHasAnIndex : Type 0
EachRowHasAnIndex = (rows : List Point) → All (StandsAt (distinct_points rows)) rows

abbrev pub MergedPointsAreFew : Type 0
MergedPointsAreFew = (rows : List Point) → length (distinct_points rows) ≤ length rows

-- so that distinct points of data points are data points
abbrev pub MergedPointsAreWithin : Type 0
MergedPointsAreWithin = (m : ℕ) (rows : List Point) → All (IsWithin m) rows → All (IsWithin m) (distinct_points rows)
