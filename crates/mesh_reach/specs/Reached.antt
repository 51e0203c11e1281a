-- Points near the faces of a mesh. One unit of the points is `fine` units of the mesh.
--
--   IsNearSomeFace fine within points faces p      some face has a point at most `within` units of p from p
--   AreCornersReached fine within homes points faces face   each corner of a face is that near to some face
--   AreReached fine within homes home_faces points faces    each corner of each face of a mesh is
--   AreMarkedReached fine within homes points faces marks   each point with a mark is
use Rattle.std.specs.Prelude.{ℕ, ◌≡◌, ◌<◌, Bool, true, false, List, length, All, slice_index_or}
use Rattle.geo_sign.specs.Point.{Point}
use Rattle.mesh.specs.Meshes.{point_at}
use Rattle.mesh_edges.specs.Edges.{face_at}
use Rattle.face_near.specs.Near.{IsNearFace}

-- some face has a point that near
abbrev pub IsNearSomeFace : (fine within : ℕ) → List Point → List (List ℕ) → Point → Type 0
IsNearSomeFace fine within points faces p = (i : ℕ) × (i < length faces) × IsNearFace fine within p points (face_at faces i)

-- each corner of a face among other points is
abbrev pub AreCornersReached : (fine within : ℕ) → (homes points : List Point) → (faces : List (List ℕ)) → (face : List ℕ) → Type 0
AreCornersReached fine within homes points faces face = All (λ v. IsNearSomeFace fine within points faces (point_at homes v)) face

-- each corner of each face of a mesh is
abbrev pub AreReached : (fine within : ℕ) → (homes : List Point) → (home_faces : List (List ℕ)) → (points : List Point) → (faces : List (List ℕ)) → Type 0
AreReached fine within homes home_faces points faces = All (AreCornersReached fine within homes points faces) home_faces

-- each point with a mark is
abbrev pub AreMarkedReached : (fine within : ℕ) → (homes points : List Point) → (faces : List (List ℕ)) → (marks : List Bool) → Type 0
AreMarkedReached fine within homes points faces marks =
    (v : ℕ) → slice_index_or marks v false ≡ true → IsNearSomeFace fine within points faces (point_at homes v)
