-- The power of a fifth point at four: where it lies by the sphere through them (the empty-sphere definition of a
-- Delaunay tetrahedrization, lifted to one more dimension).
--
--   power a b c d p ha hb hc hd hp    each point is lifted by its height; the power is how far p is above the plane
--                                     through the four others, times their orientation
--   plain_power a b c d p             the power with the squared distance from the origin as height: negative if a, b,
--                                     c, d are positively oriented and p is inside the sphere through them
use Rattle.std.specs.Prelude.{ℤ, ◌+ℤ◌, ◌-ℤ◌, ◌*ℤ◌}
use Rattle.geo_sign.specs.Point.{Point, square}
use Rattle.geo_sign.specs.Orientation.{orientation}

-- The in-sphere determinant of five points, each with a given height: how far p, lifted by its height, is above the
-- plane through the four others, lifted by theirs, times their orientation. If each height is the squared distance from
-- the origin, and a, b, c, d are positively oriented, the determinant is negative exactly if p is inside the sphere
-- through a, b, c, d. Other heights perturb the determinant.
unfoldable pub power : (a b c d p : Point) (ha hb hc hd hp : ℤ) → ℤ
power a b c d p ha hb hc hd hp =
    orientation a b c d *ℤ hp
    -ℤ (ha *ℤ orientation p b c d +ℤ hb *ℤ orientation a p c d +ℤ hc *ℤ orientation a b p d +ℤ hd *ℤ orientation a b c p)

-- For four points positively oriented: negative where p is inside the sphere through them, zero where it is on it.
abbrev pub plain_power : (a b c d p : Point) → ℤ
plain_power a b c d p = power a b c d p (square a) (square b) (square c) (square d) (square p)
