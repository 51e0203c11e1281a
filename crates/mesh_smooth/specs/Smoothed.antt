-- Smoothed meshes on a finer grid.
--
--   magnified k p                      a point, each coordinate times k
--   IsScale k                          1, 2, 4 .. or 1,024
--   FitsTimes points k                 each coordinate times k has an absolute value of at most 4,194,304
--   IsLargestScale Fits fine           the largest scale that fits, and 1 if none does
--   IsMagnified k old new              the same number of points, each times k
--   IsReshaped before after old new   faces were flipped and points moved; what was apart still is
--   IsSmoothedMesh points new_points old new fine within
--                                      one unit of the mesh is `fine` units of the finer grid, as many as fit. Each new point is at
--                                      most `fine * within` from `fine` times the old one. Edges were flipped. Faces
--                                      that were apart still are
use Rattle.std.specs.Prelude.{ℕ, ◌≡◌, ◌≤◌, ◌<◌, ◌*◌, ◌^◌, ◌⊎◌, pos, ◌*ℤ◌, List, length, All}
use Rattle.geo_sign.specs.Point.{Point, point, IsWithin}
use Rattle.mesh.specs.Meshes.{point_at}
use Rattle.mesh_flips.specs.Flips.{AreFlips, KeepsApart, KeepsSingle}
use Rattle.mesh_smooth.specs.Near.{IsNear}

-- each coordinate times k
abbrev pub magnified : ℕ → Point → Point
magnified k p = point (pos k *ℤ p.x) (pos k *ℤ p.y) (pos k *ℤ p.z)

-- 1, 2, 4 .. or 1,024
abbrev pub IsScale : ℕ → Type 0
IsScale k = (n : ℕ) × (n ≤ 10) × (k ≡ 2 ^ n)

-- each coordinate times k is in half of the box
abbrev pub FitsTimes : List Point → ℕ → Type 0
FitsTimes points k = All (λ p. IsWithin 4194304 (magnified k p)) points

-- the largest scale that fits, and 1 if none does
pub record IsLargestScale (Fits : ℕ → Type 0) (fine : ℕ) : Type 0 where
  pub scale : IsScale fine
  pub fits : (fine ≡ 1) ⊎ Fits fine
  pub largest : (k : ℕ) → IsScale k → Fits k → k ≤ fine

-- as many points, each times k
pub record IsMagnified (k : ℕ) (old new : List Point) : Type 0 where
  pub count : length new ≡ length old
  pub each : (v : ℕ) → v < length old → point_at new v ≡ magnified k (point_at old v)

-- Edges were flipped and points moved. Faces that were apart still are, and no directed edge occurs twice that did not.
pub record IsReshaped (before after : List Point) (old new : List (List ℕ)) : Type 0 where
  pub flips : AreFlips old new
  pub single : KeepsSingle old new
  pub apart : KeepsApart before after old new

-- One unit of the old grid is `fine` units of the new one, as many as fit. Each point is at most `within` old units from where it was.
pub record IsSmoothedMesh (points new_points : List Point) (old new : List (List ℕ)) (fine within : ℕ) : Type 0 where
  pub scale : IsLargestScale (FitsTimes points) fine
  pub count : length new_points ≡ length points
  pub near : (v : ℕ) → v < length points → IsNear (magnified fine (point_at points v)) (point_at new_points v) (fine * within)
  pub shape : IsReshaped points new_points old new
