-- The plane through a scanner and an edge.
--
--   vector_of d           the vector that a `Direction` of the code is
--   IsRounded n h doubt   if a product with the rounded normal is over the doubt, it has the sign of the product with
--                         the exact one
--   IsPlane w             the plane through the scanner and two points, with a normal that may be rounded
--   IsPlaneOf s b c w     w is the plane (`IsPlane`) through the scanner s and the points b and c
use Rattle.std.specs.Prelude.{ℕ, pos, neg_ℤ, ◌≡◌, ◌^◌, ◌<ℤ◌}
use Rattle.geo_sign.specs.declared.point.TheConstants.{BOX_LIMIT}
use Rattle.geo_sign.specs.Point.{Point, point, IsWithin, step, cross, dot}
use Rattle.beam.specs.declared.plane.Direction.{Direction}
use Rattle.beam.specs.declared.plane.Plane.{Plane}

-- its coordinates
abbrev pub vector_of : Direction → Point
vector_of d = point d.x d.y d.z

-- for each vector between two points of the box, a product with h over the doubt has the sign of that with n
pub record IsRounded (n h : Point) (doubt : ℕ) : Type 0 where
  pub above : (r : Point) → IsWithin (2 ^ 24) r → pos doubt <ℤ dot h r → pos 0 <ℤ dot n r
  pub below : (r : Point) → IsWithin (2 ^ 24) r → dot h r <ℤ neg_ℤ (pos doubt) → dot n r <ℤ pos 0

-- points of the box, and a normal that is short enough, perhaps rounded
pub record IsPlane (w : Plane) : Type 0 where
  pub scanner_within : IsWithin BOX_LIMIT w.scanner
  pub b_within : IsWithin BOX_LIMIT w.b
  pub c_within : IsWithin BOX_LIMIT w.c
  pub short : IsWithin (2 ^ 37) (vector_of w.normal)
  pub rounded : IsRounded (cross (step w.scanner w.b) (step w.scanner w.c)) (vector_of w.normal) w.doubt
  pub base : w.base ≡ dot (vector_of w.normal) w.scanner

-- the plane through the scanner, b and c
pub record IsPlaneOf (s b c : Point) (w : Plane) : Type 0 where
  pub kept : IsPlane w
  pub same : (w.scanner ≡ s) × (w.b ≡ b) × (w.c ≡ c)
