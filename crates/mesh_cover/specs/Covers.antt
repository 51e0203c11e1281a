-- Points of the faces of a mesh, near the faces of another.
--
--   times k p                           a point times a number
--   IsMeanNear within m q a b c u v w      the weighted mean of three corners is at most `within` from the point q / m
--   IsNearFaceOf within points m q f       some point of a face is
--   IsPlaceCovered within points faces m q   some face is that near to q / m
--   IsTriangleCovered within points faces m a b c   each point of the triangle with the corners a / m, b / m, c / m is
--   IsFaceCovered within homes points faces f       each point of a face is
--   IsCovered within homes home_faces points faces  each point of each face of a mesh is
--   AreWithinEachOther within homes home_faces points faces   each point of a face of either mesh is near a face of the other
--
-- The points of a triangle with whole corners are the weighted means of these, and whole weights give means as near as one likes to each
-- of them. All lengths are multiplied by the sums of the weights, so no fraction occurs.
use Rattle.std.specs.Prelude.{ℕ, ◌<◌, ◌+◌, ◌*◌, pos, ◌*ℤ◌, ◌≤ℤ◌, List, [], ◌∷◌, length, All}
use Rattle.geo_sign.specs.Point.{Point, point, step, square}
use Rattle.mesh.specs.Meshes.{point_at}
use Rattle.mesh_edges.specs.Edges.{face_at}
use Rattle.triangles.specs.Shared.{weighted}

-- a point times a number
abbrev pub times : ℕ → Point → Point
times k p = point (pos k *ℤ p.x) (pos k *ℤ p.y) (pos k *ℤ p.z)

-- Not all weights are 0, and the square of the distance between the mean of the corners and q / m is at most that of `within`, both times
-- m and the sum of the weights.
abbrev pub IsMeanNear : (within m : ℕ) → (q a b c : Point) → (u v w : ℕ) → Type 0
IsMeanNear within m q a b c u v w =
    let n = u + v + w in
    (0 < n) × (square (step (times n q) (times m (weighted a b c u v w))) ≤ℤ pos (m * n * within * (m * n * within)))

-- some weights give a point of the face that near
abbrev pub IsNearFaceOf : (within : ℕ) → List Point → (m : ℕ) → Point → List ℕ → Type 0
IsNearFaceOf within points m q (a ∷ b ∷ c ∷ []) =
    (u : ℕ) × (v : ℕ) × (w : ℕ) × IsMeanNear within m q (point_at points a) (point_at points b) (point_at points c) u v w
IsNearFaceOf within points m q _ = ⊥

-- some face has one
abbrev pub IsPlaceCovered : (within : ℕ) → List Point → List (List ℕ) → (m : ℕ) → Point → Type 0
IsPlaceCovered within points faces m q = (i : ℕ) × (i < length faces) × IsNearFaceOf within points m q (face_at faces i)

-- each weighted mean of the corners is that near to some face
abbrev pub IsTriangleCovered : (within : ℕ) → List Point → List (List ℕ) → (m : ℕ) → (a b c : Point) → Type 0
IsTriangleCovered within points faces m a b c =
    (u v w : ℕ) → 0 < u + v + w → IsPlaceCovered within points faces (m * (u + v + w)) (weighted a b c u v w)

-- each point of a face among other points is
abbrev pub IsFaceCovered : (within : ℕ) → (homes points : List Point) → (faces : List (List ℕ)) → List ℕ → Type 0
IsFaceCovered within homes points faces (a ∷ b ∷ c ∷ []) =
    IsTriangleCovered within points faces 1 (point_at homes a) (point_at homes b) (point_at homes c)
IsFaceCovered within homes points faces _ = ⊥

-- each point of each face of a mesh is
abbrev pub IsCovered : (within : ℕ) → (homes : List Point) → (home_faces : List (List ℕ)) → (points : List Point) → (faces : List (List ℕ)) → Type 0
IsCovered within homes home_faces points faces = All (IsFaceCovered within homes points faces) home_faces

-- either mesh covers the other
pub record AreWithinEachOther (within : ℕ) (homes : List Point) (home_faces : List (List ℕ)) (points : List Point) (faces : List (List ℕ))
    : Type 0 where
  pub there : IsCovered within homes home_faces points faces
  pub back : IsCovered within points faces homes home_faces
