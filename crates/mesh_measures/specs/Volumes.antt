-- The signed volume of a mesh.
--
--   AreFacesOf points faces    fewer than 2^32 faces, each three distinct corners among the points
--   face_volume points f       six times the signed volume of the tetrahedron of the origin and a face
--   six_volume points faces    six times the signed volume of a closed mesh: the sum over its faces
use Rattle.std.specs.Prelude.{ℕ, ◌<◌, ◌^◌, All, length, ℤ, pos, ◌+ℤ◌, List, [], ◌∷◌, fold}
use Rattle.geo_sign.specs.Point.{Point, origin}
use Rattle.geo_sign.specs.Orientation.{orientation}
use Rattle.mesh.specs.Meshes.{IsFace, point_at}

-- fewer than 2^32 faces among the points
pub record AreFacesOf (points : List Point) (faces : List (List ℕ)) : Type 0 where
  pub few : length faces < 2 ^ 32
  pub each : All (IsFace (length points)) faces

-- of the tetrahedron of the origin and a face; positive if the face turns counterclockwise as seen from outside
abbrev pub face_volume : List Point → List ℕ → ℤ
face_volume points (a ∷ b ∷ c ∷ []) = orientation origin (point_at points a) (point_at points b) (point_at points c)
face_volume points _ = pos 0

-- Of a closed mesh this is six times its volume, wherever the origin is.
abbrev pub six_volume : List Point → List (List ℕ) → ℤ
six_volume points faces = fold (λ v f. v +ℤ face_volume points f) (pos 0) faces
