-- Points of a face that are far from a mesh.
--
--   AreAllFar within points faces m q   each point of each face is farther than `within` from the point q / m
--   IsFarPoint within homes points faces f u v w   the weighted mean of a face's corners is that far from each face of another mesh
--   IsFarIfGiven within homes points faces f far   if weights are given, their mean is
use Rattle.std.specs.Prelude.{ℕ, ◌<◌, ◌+◌, List, [], ◌∷◌, All, Option, IfSome}
use Rattle.geo_sign.specs.Point.{Point}
use Rattle.mesh.specs.Meshes.{point_at}
use Rattle.triangles.specs.Shared.{weighted}
use Rattle.face_near.specs.declared.exact.Weights.{Weights}
use Rattle.mesh_cover.specs.Covers.{IsNearFaceOf}

-- no weights give a point of a face that is not farther
abbrev pub AreAllFar : (within : ℕ) → List Point → List (List ℕ) → (m : ℕ) → Point → Type 0
AreAllFar within points faces m q = All (λ f. ¬ IsNearFaceOf within points m q f) faces

-- Not all weights are 0, and the mean of the corners of a face among other points is far.
abbrev pub IsFarPoint : (within : ℕ) → (homes points : List Point) → (faces : List (List ℕ)) → List ℕ → (u v w : ℕ) → Type 0
IsFarPoint within homes points faces (a ∷ b ∷ c ∷ []) u v w =
    (0 < u + v + w)
    × AreAllFar within points faces (u + v + w) (weighted (point_at homes a) (point_at homes b) (point_at homes c) u v w)
IsFarPoint within homes points faces _ u v w = ⊥

-- if there are weights, they give such a point
abbrev pub IsFarIfGiven : (within : ℕ) → (homes points : List Point) → (faces : List (List ℕ)) → List ℕ → Option Weights → Type 0
IsFarIfGiven within homes points faces f far = IfSome far (λ w. IsFarPoint within homes points faces f w.a w.b w.c)
