-- How many pairs of faces cross.
--
--   CountsCrossings points faces c   c has the numbers of pairs that cross and of undecided ones, and the first pair that crosses
use Rattle.std.specs.Prelude.{ℕ, ◌≡◌, List, length, slice_get}
use Rattle.geo_sign.specs.Point.{Point}
use Rattle.mesh_edges.specs.declared.pairs.Pair.{Pair}
use Rattle.mesh_crossings.specs.Crossings.{AreCrossingPairs}
use Rattle.mesh_crossings.specs.declared.counts.CrossingCounts.{CrossingCounts}

-- the lengths of the two lists, and the first pair that is listed as crossing
pub record CountsCrossings (points : List Point) (faces : List (List ℕ)) (c : CrossingCounts) : Type 0 where
  pub crossing : List Pair
  pub undecided : List Pair
  pub lists : AreCrossingPairs points faces crossing undecided
  pub count : c.crossing ≡ length crossing
  pub undecided_count : c.undecided ≡ length undecided
  pub first : c.first ≡ slice_get crossing 0
