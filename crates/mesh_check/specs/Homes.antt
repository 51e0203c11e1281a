-- Points near the points of a coarser grid, the homes. One unit of the homes is `fine` units of the points.
--
--   IsNearHome fine within home p        `home` is a point of the original mesh. One unit of that mesh is `fine` units
--                                        of the finer grid. In units of the finer grid, p is at most `fine * within`
--                                        from `fine` times `home`
--   IsNearSome fine within homes p       the point is as near as that to one of the homes
--   AreAllNear fine within homes points  each point is as near as that to one of the homes
--   IsFirstFar fine within homes points i   point i is the first that is not as near as that to one of the homes
use Rattle.std.specs.Prelude.{ℕ, ◌<◌, ◌*◌, pos, ◌*ℤ◌, ◌≤ℤ◌, List, length}
use Rattle.geo_sign.specs.Point.{Point, point, step, square}
use Rattle.mesh.specs.Meshes.{point_at}

-- the square of the distance to the home times `fine` is at most that of `within` times `fine`
abbrev pub IsNearHome : (fine within : ℕ) → (home p : Point) → Type 0
IsNearHome fine within home p =
    square (step (point (pos fine *ℤ home.x) (pos fine *ℤ home.y) (pos fine *ℤ home.z)) p) ≤ℤ pos (fine * within * (fine * within))

-- the point is near one of the homes
abbrev pub IsNearSome : (fine within : ℕ) → List Point → Point → Type 0
IsNearSome fine within homes p = (k : ℕ) × (k < length homes) × IsNearHome fine within (point_at homes k) p

-- each point is near one of the homes
abbrev pub AreAllNear : (fine within : ℕ) → (homes points : List Point) → Type 0
AreAllNear fine within homes points = (i : ℕ) → i < length points → IsNearSome fine within homes (point_at points i)

-- the point is near none, and each before it is near one
pub record IsFirstFar (fine within : ℕ) (homes points : List Point) (i : ℕ) : Type 0 where
  pub inside : i < length points
  pub far : ¬ IsNearSome fine within homes (point_at points i)
  pub before : (j : ℕ) → j < i → IsNearSome fine within homes (point_at points j)
