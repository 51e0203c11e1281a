-- Points with coordinates over a common number, and the side of a facet on which one lies.
--
--   RationalPoint       a place: three integers over a common divisor
--   rational p          a point as a place
--   displaced s         the symbolically perturbed place of a scanner at s: s + (1/K, 1/K^2, 1/K^3) with K = 2^64. So
--                       no scanner is in the plane of three points that are not on one line
--   side a b c q        the orientation of a, b, c and the place q, times the divisor of q
use Rattle.std.specs.Prelude.{ℤ, pos, ◌^◌, ◌+ℤ◌, ◌-ℤ◌, ◌*ℤ◌}
use Rattle.geo_sign.specs.Point.{Point, point, step, cross, dot}

-- A point with rational coordinates: the three integers of `at`, each divided by `over`.
pub record RationalPoint : Type 0 where
  pub at : Point
  pub over : ℤ

-- An integer point as a rational one, with divisor 1.
abbrev pub rational : Point → RationalPoint
rational p = record { at = p; over = pos 1 }

-- The symbolically perturbed position of a scanner at s: s + (2^-64, 2^-128, 2^-192). A line of sight then passes
-- through no edge and no vertex on its way, and the scanner lies in no facet's plane.
abbrev pub displaced : Point → RationalPoint
displaced s =
    record {
      at = point (pos (2 ^ 192) *ℤ s.x +ℤ pos (2 ^ 128)) (pos (2 ^ 192) *ℤ s.y +ℤ pos (2 ^ 64)) (pos (2 ^ 192) *ℤ s.z +ℤ pos 1);
      over = pos (2 ^ 192);
    }

-- The orientation of a, b, c and the rational point q, times the divisor of q. It is positive if a, b, c turn
-- counterclockwise as seen from q.
unfoldable pub side : Point → Point → Point → RationalPoint → ℤ
side a b c q =
    dot (cross (step a b) (step a c)) (point (q.at.x -ℤ q.over *ℤ a.x) (q.at.y -ℤ q.over *ℤ a.y) (q.at.z -ℤ q.over *ℤ a.z))
