-- The written symbolic perturbation: each vertex is lifted by its number too, so that no five vertices lie on one sphere.
--
--   height n i p                the height of vertex i at p: the squared distance from the origin times B^n, plus B^i.
--                               B is 2^80, and n is above every vertex number
--   tied_power n a b c d p      the power of five numbered points at these heights. If it is negative, p is in conflict
--                               with the cell
use Rattle.std.specs.Prelude.{ℕ, ◌^◌, ℤ, pos, ◌+ℤ◌, ◌*ℤ◌}
use Rattle.geo_sign.specs.Point.{Point, square}
use Rattle.geo_sign.specs.Power.{power}

-- The height of vertex i, which is at the point p, if all vertex numbers are less than n: the squared distance from the
-- origin, times B^n, plus B^i, with B = 2^80. This is a symbolic perturbation: the term B^i is too small to change the
-- sign of a determinant that is not zero. If five vertices are cospherical, the one with the greatest number decides
-- the sign, unless the other four are coplanar; then the next one does.
abbrev pub height : (n i : ℕ) → Point → ℤ
height n i p = square p *ℤ pos ((2 ^ 80) ^ n) +ℤ pos ((2 ^ 80) ^ i)

-- the power of p at the cell a b c d, each a number and its point; p is in conflict with the cell where it is negative
abbrev pub tied_power : ℕ → (a b c d p : ℕ × Point) → ℤ
tied_power n a b c d p =
    power a.1 b.1 c.1 d.1 p.1 (height n a.0 a.1) (height n b.0 b.1) (height n c.0 c.1) (height n d.0 d.1) (height n p.0 p.1)
