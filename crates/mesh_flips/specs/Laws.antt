-- What flips keep.
--
--   FlipsKeepExcess       for each directed edge, the number of its occurrences minus that of its reverse is as before
--   FlipsKeepTriangles    each face still has three distinct corners among the same points
--   FlipsKeepCount        there are as many faces
--   FlipsKeepClosed       if each directed edge occurred as often as its reverse, it still does
use Rattle.std.specs.Prelude.{ℕ, List, All, length, ◌≡◌}
use Rattle.mesh_edges.specs.Edges.{IsBalanced}
use Rattle.mesh_flips.specs.Turns.{IsTriangle}
use Rattle.mesh_flips.specs.Flips.{AreFlips, SameExcess}

abbrev pub FlipsKeepExcess : Type 0
FlipsKeepExcess = (n : ℕ) (old new : List (List ℕ)) → All (IsTriangle n) old → AreFlips old new → SameExcess old new

abbrev pub FlipsKeepTriangles : Type 0
FlipsKeepTriangles = (n : ℕ) (old new : List (List ℕ)) → All (IsTriangle n) old → AreFlips old new → All (IsTriangle n) new

abbrev pub FlipsKeepCount : Type 0
FlipsKeepCount = (old new : List (List ℕ)) → AreFlips old new → length new ≡ length old

abbrev pub FlipsKeepClosed : Type 0
FlipsKeepClosed = (n : ℕ) (old new : List (List ℕ)) → All (IsTriangle n) old → AreFlips old new → IsBalanced old → IsBalanced new
