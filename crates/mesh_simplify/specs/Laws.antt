-- What is said of simplified meshes.
--
--   MetBefore old_points old_faces points from f g   two faces are old ones, are where these were, and were not apart
--   MeetsOnlyWhatMet             two faces of a simplified mesh that are not apart were faces of the old one that were not
use Rattle.std.specs.Prelude.{ℕ, ◌≡◌, ◌<◌, Bool, List, length, map, slice_index, All}
use Rattle.geo_sign.specs.Point.{Point}
use Rattle.mesh.specs.Meshes.{IsMesh}
use Rattle.mesh_edges.specs.Edges.{face_at}
use Rattle.triangles.specs.Gaps.{AreFacesApart}
use Rattle.mesh_simplify.specs.Simplified.{IsAtOldPlace, IsSimplified}

-- Two faces are the old ones of numbers k and l, by the old numbers of their vertices, no corner has moved, and these two were not apart.
pub record MetBefore (old_points : List Point) (old_faces : List (List ℕ)) (points : List Point) (from : List ℕ) (f g : List ℕ) : Type 0 where
  pub k : ℕ
  pub l : ℕ
  pub k_within : k < length old_faces
  pub l_within : l < length old_faces
  pub one : face_at old_faces k ≡ map (slice_index from) f
  pub other : face_at old_faces l ≡ map (slice_index from) g
  pub one_stays : All (IsAtOldPlace old_points points from) f
  pub other_stays : All (IsAtOldPlace old_points points from) g
  pub met : ¬ AreFacesApart old_points (face_at old_faces k) (face_at old_faces l)

-- by no simplifying two faces meet that were apart
abbrev pub MeetsOnlyWhatMet : Type 0
MeetsOnlyWhatMet =
    (moves : Bool) (within : ℕ) (old_points : List Point) (old_faces : List (List ℕ)) (points : List Point) (faces : List (List ℕ))
    → IsMesh points faces → (s : IsSimplified moves within old_points old_faces points faces) → (i j : ℕ) → i < j → j < length faces
    → ¬ AreFacesApart points (face_at faces i) (face_at faces j)
    → MetBefore old_points old_faces points s.from (face_at faces i) (face_at faces j)
