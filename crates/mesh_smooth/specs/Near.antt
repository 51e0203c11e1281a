-- Points that moved.
--
--   IsNear home place within            the place of a moved point is at most `within` from its home, its place in the
--                                       original mesh
--   AreNearHome home points within      each point is at most `within` from its home
--   IsSmoothed home old new faces within
--                                       each new point is at most `within` from its home, and faces that were apart
--                                       still are
use Rattle.std.specs.Prelude.{ℕ, ◌≡◌, ◌<◌, ◌*◌, pos, ◌≤ℤ◌, List, length}
use Rattle.geo_sign.specs.Point.{Point, step, square}
use Rattle.mesh.specs.Meshes.{point_at}
use Rattle.mesh_flips.specs.Flips.{KeepsApart}

-- the square of the distance is at most that of `within`
abbrev pub IsNear : (home place : Point) (within : ℕ) → Type 0
IsNear home place within = square (step home place) ≤ℤ pos (within * within)

-- as many points, each near its home
pub record AreNearHome (home points : List Point) (within : ℕ) : Type 0 where
  pub count : length points ≡ length home
  pub near : (v : ℕ) → v < length home → IsNear (point_at home v) (point_at points v) within

-- Each new point is at most `within` from its home, and faces that were apart among the old points are apart among the new ones.
pub record IsSmoothed (home old new : List Point) (faces : List (List ℕ)) (within : ℕ) : Type 0 where
  pub near : AreNearHome home new within
  pub apart : KeepsApart old new faces faces
