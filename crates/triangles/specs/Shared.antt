-- Points that two triangles contain, by weights of their corners.
--
--   weighted a b c u v w   the weighted sum of three points
--   Weights                six whole numbers, three for the corners of each triangle
--   IsShared s t n         the weights give one point of both
--   IsExcluded f n            the weights of excluded corners are 0
--   AreExcluded s t f      at each point that both triangles contain, the weights of excluded corners are 0
--                          (`IsExcluded`)
--   AreExcludedOff s t m   at each point that both triangles contain, the weights of the second triangle's marked
--                          corners are 0
--
-- A point of a triangle with whole corners is a weighted mean of them. The points that two such triangles share are a point, a
-- segment or a polygon with rational corners, so where there is one but for common corners there is one with whole weights.
use Rattle.std.specs.Prelude.{ℕ, ◌≡◌, ◌+◌, true, ℤ, pos, ◌+ℤ◌, ◌*ℤ◌}
use Rattle.geo_sign.specs.Point.{Point, point}
use Rattle.triangles.specs.declared.corners.Triangle.{Triangle}
use Rattle.triangles.specs.declared.corners.Excluded.{Excluded}
use Rattle.triangles.specs.declared.corners.Marks.{Marks}

-- the sum of three numbers, each as often as its weight says
abbrev pub weighted_sum : (a b c : ℤ) → (u v w : ℕ) → ℤ
weighted_sum a b c u v w = pos u *ℤ a +ℤ pos v *ℤ b +ℤ pos w *ℤ c

-- the same of three points
abbrev pub weighted : (a b c : Point) → (u v w : ℕ) → Point
weighted a b c u v w =
    point (weighted_sum a.x b.x c.x u v w) (weighted_sum a.y b.y c.y u v w) (weighted_sum a.z b.z c.z u v w)

-- how often each corner counts
pub record Weights : Type 0 where
  pub p : ℕ
  pub q : ℕ
  pub r : ℕ
  pub x : ℕ
  pub y : ℕ
  pub z : ℕ

-- as many in all, and the same point
pub record IsShared (s t : Triangle) (n : Weights) : Type 0 where
  pub total : n.p + n.q + n.r ≡ n.x + n.y + n.z
  pub place : weighted s.p s.q s.r n.p n.q n.r ≡ weighted t.p t.q t.r n.x n.y n.z

-- the weights of excluded corners are 0
pub record IsExcluded (f : Excluded) (n : Weights) : Type 0 where
  pub p : f.one.p ≡ true → n.p ≡ 0
  pub q : f.one.q ≡ true → n.q ≡ 0
  pub r : f.one.r ≡ true → n.r ≡ 0
  pub x : f.other.p ≡ true → n.x ≡ 0
  pub y : f.other.q ≡ true → n.y ≡ 0
  pub z : f.other.r ≡ true → n.z ≡ 0

abbrev pub AreExcluded : Triangle → Triangle → Excluded → Type 0
AreExcluded s t f = (n : Weights) → IsShared s t n → IsExcluded f n

-- the weights of marked corners of the second are 0
pub record AreMarkedOff (m : Marks) (x y z : ℕ) : Type 0 where
  pub p : m.p ≡ true → x ≡ 0
  pub q : m.q ≡ true → y ≡ 0
  pub r : m.r ≡ true → z ≡ 0

abbrev pub AreExcludedOff : Triangle → Triangle → Marks → Type 0
AreExcludedOff s t m = (n : Weights) → IsShared s t n → AreMarkedOff m n.x n.y n.z
