-- Numbers of faces and edges.
--
--   face_key f                 a number for the vertices of a face, in whichever order they stand
--   CountsKeys faces keys      how often the number of an edge occurs is how often the edge does
--   HasGainedKeys face keys more   each number once more where the face has its edge
use Rattle.std.specs.Prelude.{ℕ, ◌≡◌, ◌<◌, ◌==◌, ◌+◌, ◌*◌, ◌^◌, min, max, List, [], ◌∷◌, count_by, if◌then◌else◌}
use Rattle.mesh_edges.specs.Edges.{has_edge, faces_with_edge}
use Rattle.mesh_edges.specs.Pairs.{key_of}

-- the smallest vertex comes first; the others count by their sizes
abbrev pub face_key : List ℕ → ℕ
face_key (a ∷ b ∷ c ∷ []) = a * 2 ^ 64 + min b c * 2 ^ 32 + max b c
face_key _ = 0

-- each number occurs as often as its edge
abbrev pub CountsKeys : List (List ℕ) → List ℕ → Type 0
CountsKeys faces keys =
    (u v : ℕ) → u < 2 ^ 32 → v < 2 ^ 32 → count_by (λ k. k == key_of u v) keys ≡ faces_with_edge u v faces

-- each number once more where the face has its edge
abbrev pub HasGainedKeys : (face keys more : List ℕ) → Type 0
HasGainedKeys face keys more =
    (u v : ℕ) → u < 2 ^ 32 → v < 2 ^ 32
    → count_by (λ k. k == key_of u v) more ≡ count_by (λ k. k == key_of u v) keys + (if has_edge u v face then 1 else 0)
