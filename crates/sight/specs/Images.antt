-- How points look along a line of sight.
--
--   along d            the vector that a `Direction` of the code is
--   scaled u c         the vector u times the integer c
--   IsScreen w u       the two vectors of w are a screen for the direction u: their cross product is u times an integer
--                      that is not negative, and their coordinates are at most 2^24
--   IsLookedAlong s r  the ray r has the point of its vertex, and a screen for the direction from this point to its
--                      scanner (`IsScreen`)
--   IsImage w p x i    i is the image of the point x on the screen w, seen from p, and neither of its two coordinates
--                      is over 3 * 2^48
--   no_image           the value that is read in place of an image that does not exist: both coordinates are 0
use Rattle.std.specs.Prelude.{ℤ, pos, ◌≡◌, ◌<◌, ◌≤◌, ◌≤ℤ◌, ◌*◌, ◌^◌, ◌*ℤ◌, unsigned_abs, length, get_or}
use Rattle.geo_sign.specs.declared.point.TheConstants.{BOX_LIMIT}
use Rattle.geo_sign.specs.Point.{Point, origin, point, IsWithin, step, cross, dot}
use Rattle.tetra_store.specs.Store.{Store}
use Rattle.sight.specs.declared.image.Direction.{Direction}
use Rattle.sight.specs.declared.image.Screen.{Screen}
use Rattle.sight.specs.declared.image.Ray.{Ray}
use Rattle.sight.specs.declared.image.Image.{Image}

-- its coordinates
abbrev pub along : Direction → Point
along d = point d.x d.y d.z

-- each of them times a number
abbrev pub scaled : Point → ℤ → Point
scaled u c = point (u.x *ℤ c) (u.y *ℤ c) (u.z *ℤ c)

-- two vectors perpendicular to u
pub record IsScreen (w : Screen) (u : Point) : Type 0 where
  pub right_within : IsWithin (2 ^ 24) (along w.right)
  pub up_within : IsWithin (2 ^ 24) (along w.up)
  pub stretch : ℤ
  pub not_negative : pos 0 ≤ℤ stretch
  pub product : cross (along w.right) (along w.up) ≡ scaled u stretch

-- its vertex exists, and point and screen are those of the sight
pub record IsLookedAlong (s : Store) (r : Ray) : Type 0 where
  pub known : r.vertex < length s.points
  pub start : r.point ≡ get_or s.points r.vertex origin
  pub within : IsWithin BOX_LIMIT r.point
  pub screen : IsScreen r.screen (step r.point r.scanner)

-- the scalar products with the two, from p
pub record IsImage (w : Screen) (p x : Point) (i : Image) : Type 0 where
  pub right : i.right ≡ dot (along w.right) (step p x)
  pub up : i.up ≡ dot (along w.up) (step p x)
  pub right_within : unsigned_abs i.right ≤ 3 * 2 ^ 48
  pub up_within : unsigned_abs i.up ≤ 3 * 2 ^ 48

abbrev pub no_image : Image
no_image = record { right = pos 0; up = pos 0 }
