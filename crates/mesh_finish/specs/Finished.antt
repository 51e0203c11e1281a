-- A finished mesh.
--
--   AreTurned old new           the same faces, each written from any of its corners on
--   IsFinished points old new   the faces in another order, then flipped, then each written from any of its corners on
--   AreSmoothed points old new_points new fine within   points moved and faces flipped, then written from another corner on
use Rattle.std.specs.Prelude.{ℕ, ◌≡◌, ◌<◌, List, length, IsPermutation}
use Rattle.geo_sign.specs.Point.{Point}
use Rattle.mesh_edges.specs.Edges.{face_at}
use Rattle.mesh_flips.specs.Turns.{IsCycled}
use Rattle.mesh_flips.specs.Flips.{IsFlipped}
use Rattle.mesh_smooth.specs.Smoothed.{IsSmoothedMesh}

-- the same faces, each written from another corner on
pub record AreTurned (old new : List (List ℕ)) : Type 0 where
  pub count : length new ≡ length old
  pub each : (i : ℕ) → i < length old → IsCycled (face_at old i) (face_at new i)

-- The faces are in another order, edges are flipped, and the faces are written from another corner on. Only the flips change the
-- surface; by them faces that were apart stay apart, and no directed edge occurs twice that did not.
pub record IsFinished (points : List Point) (old new : List (List ℕ)) : Type 0 where
  pub sorted : List (List ℕ)
  pub flipped : List (List ℕ)
  pub order : IsPermutation old sorted
  pub flips : IsFlipped points sorted flipped
  pub turned : AreTurned flipped new

-- The points are on a grid `fine` times finer, each at most `within` units of the old grid from where it was. Edges are flipped, and the
-- faces are written from another corner on. Faces that were apart stay apart, and no directed edge occurs twice that did not.
pub record AreSmoothed (points : List Point) (old : List (List ℕ)) (new_points : List Point) (new : List (List ℕ)) (fine within : ℕ)
    : Type 0 where
  pub flipped : List (List ℕ)
  pub smoothed : IsSmoothedMesh points new_points old flipped fine within
  pub turned : AreTurned flipped new
