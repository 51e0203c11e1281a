-- The goals of walks.
--
--   place_of goal       the place to which a walk with this goal goes. (A *goal* is a point, or a point and the scanner
--                       that sees it.)
--   IsGoal goal         the points of a goal are data points
use Rattle.geo_sign.specs.declared.point.TheConstants.{DATA_LIMIT}
use Rattle.geo_sign.specs.Point.{IsWithin}
use Rattle.geo_sign.specs.Rational.{RationalPoint, rational, displaced}
use Rattle.geo_sign.specs.NearPlaces.{towards_place, behind_place}
use Rattle.tetra_walk.specs.declared.goal.Goal.{Goal}
use Rattle.tetra_walk.specs.declared.goal.Goal.TheVariants.{Point, Scanner, Towards, Behind}

-- each is a position in the box, so that one walk serves all
abbrev pub place_of : Goal → RationalPoint
place_of (Point q) = rational q
place_of (Scanner s) = displaced s
place_of (Towards p s) = towards_place p s
place_of (Behind p s) = behind_place p s

-- all points of the goal are data points
abbrev pub IsGoal : Goal → Type 0
IsGoal (Point q) = IsWithin DATA_LIMIT q
IsGoal (Scanner s) = IsWithin DATA_LIMIT s
IsGoal (Towards p s) = IsWithin DATA_LIMIT p × IsWithin DATA_LIMIT s
IsGoal (Behind p s) = IsWithin DATA_LIMIT p × IsWithin DATA_LIMIT s
