-- How three and four points lie.
use Rattle.std.specs.Prelude.{◌≡◌, ℤ}
use Rattle.geo_sign.specs.Point.{Point, origin, step, cross, dot}

-- three points on one line
abbrev pub IsOnLine : (a b c : Point) → Type 0
IsOnLine a b c = cross (step a b) (step a c) ≡ origin

-- Six times the signed volume of the tetrahedron a b c d: the orientation determinant ((b - a) x (c - a)) . (d - a). It
-- is positive if a, b, c turn counterclockwise as seen from d; the four are then positively oriented. It is 0 if the
-- four are coplanar.
unfoldable pub orientation : Point → Point → Point → Point → ℤ
orientation a b c d = dot (cross (step a b) (step a c)) (step a d)
