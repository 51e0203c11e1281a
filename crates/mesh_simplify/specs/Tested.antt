-- What the tests of a candidate have found.
--
--   IsOldFaceAt old_points points from old_faces faces i   a face is an old one, by its number
--   ArePairsOld old_points points from old_faces faces pairs   both faces of each pair are
--   IsGood asked moves within old_points old_faces points faces   a valid mesh that is simplified, and near if that is asked
use Rattle.std.specs.Prelude.{ℕ, Bool, List, All}
use Rattle.geo_sign.specs.Point.{Point}
use Rattle.mesh.specs.Meshes.{IsMesh}
use Rattle.mesh_edges.specs.Edges.{face_at}
use Rattle.mesh_edges.specs.declared.pairs.Pair.{Pair}
use Rattle.mesh_simplify.specs.Simplified.{IsOldFace, IsSimplified, IsNearIfAsked}

-- a face is an old one, by its number
abbrev pub IsOldFaceAt : (old_points points : List Point) → (from : List ℕ) → (old_faces faces : List (List ℕ)) → ℕ → Type 0
IsOldFaceAt old_points points from old_faces faces i = IsOldFace old_points points from old_faces (face_at faces i)

-- both faces of each pair are
abbrev pub ArePairsOld : (old_points points : List Point) → (from : List ℕ) → (old_faces faces : List (List ℕ)) → List Pair → Type 0
ArePairsOld old_points points from old_faces faces pairs =
    All
    (λ p. IsOldFaceAt old_points points from old_faces faces p.first × IsOldFaceAt old_points points from old_faces faces p.second)
    pairs

-- a valid mesh that is simplified, and near if that is asked
pub record IsGood (asked moves : Bool) (within : ℕ) (old_points : List Point) (old_faces : List (List ℕ)) (points : List Point)
    (faces : List (List ℕ)) : Type 0 where
  pub valid : IsMesh points faces
  pub simplified : IsSimplified moves within old_points old_faces points faces
  pub near : IsNearIfAsked asked within old_points old_faces points faces
