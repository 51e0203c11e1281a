-- Cramer's rule for vectors between points, and what follows for orientations and the plain power.
--
--   determinant u v w    the determinant of three vectors
--   CramerLaw            a vector times the determinant of three others, as a sum of these three
--   OrientationIsSum     the orientation of four points is the sum of the four orientations in which one of the points
--                        is replaced by a fifth
--   PointIsSum           a fifth point, times the orientation of four points, is the sum of these four, each times the
--                        orientation with the fifth point in its place
--   PowerIsSum           so the plain power is the opposite of a sum over squared distances from the fifth point
use Rattle.std.specs.Prelude.{◌≡◌, ℤ, neg_ℤ, ◌+ℤ◌, ◌*ℤ◌}
use Rattle.geo_sign.specs.Point.{Point, step, cross, dot, square}
use Rattle.geo_sign.specs.Orientation.{orientation}
use Rattle.geo_sign.specs.Power.{plain_power}

-- the determinant of three vectors
abbrev pub determinant : (u v w : Point) → ℤ
determinant u v w = dot (cross u v) w

-- Cramer's rule (`CramerLaw`) for one coordinate of the vectors
abbrev pub CramerIn : (coordinate : Point → ℤ) → Type 0
CramerIn coordinate =
    (w x y z : Point)
    → coordinate x *ℤ determinant w y z
    ≡ coordinate w *ℤ determinant x y z +ℤ coordinate y *ℤ determinant w x z +ℤ coordinate z *ℤ determinant w y x

-- in all three coordinates
pub record CramerLaw : Type 0 where
  pub in_x : CramerIn (λ p. p.x)
  pub in_y : CramerIn (λ p. p.y)
  pub in_z : CramerIn (λ p. p.z)

abbrev pub OrientationIsSum : Type 0
OrientationIsSum =
    (a b c d p : Point)
    → orientation a b c d ≡ orientation p b c d +ℤ orientation a p c d +ℤ orientation a b p d +ℤ orientation a b c p

-- for one coordinate of the points: a fifth point, times the orientation of four points, is the sum of these four, each
-- times the orientation with the fifth point in its place (`PointIsSum`)
abbrev pub PointIsSumIn : (coordinate : Point → ℤ) → Type 0
PointIsSumIn coordinate =
    (a b c d p : Point)
    → orientation a b c d *ℤ coordinate p
    ≡ orientation p b c d *ℤ coordinate a +ℤ orientation a p c d *ℤ coordinate b +ℤ orientation a b p d *ℤ coordinate c
    +ℤ orientation a b c p *ℤ coordinate d

-- in all three coordinates
pub record PointIsSum : Type 0 where
  pub in_x : PointIsSumIn (λ p. p.x)
  pub in_y : PointIsSumIn (λ p. p.y)
  pub in_z : PointIsSumIn (λ p. p.z)

abbrev pub PowerIsSum : Type 0
PowerIsSum =
    (a b c d p : Point)
    → plain_power a b c d p
    ≡ neg_ℤ
    (square (step p a) *ℤ orientation p b c d +ℤ square (step p b) *ℤ orientation a p c d
    +ℤ square (step p c) *ℤ orientation a b p d
    +ℤ square (step p d) *ℤ orientation a b c p)
