-- Points with whole coordinates, in scaled whole units, and the vectors between them.
--
--   Point                   three integers
--   point                   the point of three integers
--   origin                  the point (0, 0, 0)
--   IsWithin m p            no coordinate of p has an absolute value over m
--   step a b                the vector from one point to another
--   cross u v               the cross product
--   dot u v                 the dot product
--   square u                the squared length
--   corner_point k          corner k of the box: 2^23 along x, y, z if bit 0, 1, 2 of k is set, else -2^23
use Rattle.std.specs.Prelude.{ℕ, ◌≤◌, ◌==◌, cond, bit_and, ℤ, pos, neg_ℤ, ◌+ℤ◌, ◌-ℤ◌, ◌*ℤ◌, unsigned_abs}
use Rattle.geo_sign.specs.declared.point.TheConstants.{BOX_LIMIT}

-- A point, or a vector, has three integer coordinates.
pub record Point : Type 0 where
  pub x : ℤ
  pub y : ℤ
  pub z : ℤ

-- Makes a point from its coordinates.
abbrev pub point : ℤ → ℤ → ℤ → Point
point x y z = record { x = x; y = y; z = z }

-- The point (0, 0, 0).
abbrev pub origin : Point
origin = point (pos 0) (pos 0) (pos 0)

-- Each coordinate of p is between -m and m.
pub record IsWithin (m : ℕ) (p : Point) : Type 0 where
  pub x_within : unsigned_abs p.x ≤ m
  pub y_within : unsigned_abs p.y ≤ m
  pub z_within : unsigned_abs p.z ≤ m

-- The vector b - a.
abbrev pub step : Point → Point → Point
step a b = point (b.x -ℤ a.x) (b.y -ℤ a.y) (b.z -ℤ a.z)

-- The cross product u × v, right-handed.
abbrev pub cross : Point → Point → Point
cross u v = point (u.y *ℤ v.z -ℤ u.z *ℤ v.y) (u.z *ℤ v.x -ℤ u.x *ℤ v.z) (u.x *ℤ v.y -ℤ u.y *ℤ v.x)

-- The dot product u · v.
abbrev pub dot : Point → Point → ℤ
dot u v = u.x *ℤ v.x +ℤ u.y *ℤ v.y +ℤ u.z *ℤ v.z

-- The squared length of a vector, or the squared distance of a point from the origin.
abbrev pub square : Point → ℤ
square u = dot u u

-- One coordinate of corner k: 8,388,608 if the bit of that axis is set in k, else -8,388,608.
abbrev pub wall : ℕ → ℕ → ℤ
wall k bit = cond (bit_and k bit == 0) (neg_ℤ (pos BOX_LIMIT)) (pos BOX_LIMIT)

-- Corner k of the box, for k from 0 to 7: bit 0 of k is for x, bit 1 for y, bit 2 for z.
abbrev pub corner_point : ℕ → Point
corner_point k = point (wall k 1) (wall k 2) (wall k 4)
