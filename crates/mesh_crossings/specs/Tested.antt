-- What is known of pairs that were tested.
--
--   IsCornersOf points f c         c has the points of a face
--   AreSmallWeights w              weights are small enough to be multiplied
--   KeepsPairs old new             a list still has all pairs that it had
--   IsOneMore old p new            a list has no other pairs than before and p
--   AreSamePairs old new           two lists have the same pairs
--   pair_in pairs i                the pair at an index
--   IsKnown points faces pairs i j the pair is listed, or apart
--   ArePairsKnown points faces pairs   the same of each pair of faces
--   IsKnownEither ..               the same of two numbers, the smaller first
--   AreRanksKnown .. numbers .. r s   the same of the numbers at two indices
--   AreAllKnown .. numbers .. n    the same of all before index n
use Rattle.std.specs.Prelude.{ℕ, ◌≡◌, ◌<◌, ◌≤◌, ◌^◌, ◌⊎◌, List, [], ◌∷◌, Contains, length, slice_index, slice_index_or}
use Rattle.geo_sign.specs.Point.{Point}
use Rattle.mesh.specs.Meshes.{point_at}
use Rattle.mesh_edges.specs.Edges.{face_at}
use Rattle.mesh_edges.specs.declared.pairs.Pair.{Pair}
use Rattle.triangles.specs.Gaps.{AreFacesApart}
use Rattle.mesh_crossings.specs.Crossings.{IsListedPair}
use Rattle.mesh_crossings.specs.declared.witness.Corners.{Corners}
use Rattle.mesh_crossings.specs.declared.witness.Weights.{Weights}

-- c has the points of the face
abbrev pub IsCornersOf : List Point → List ℕ → Corners → Type 0
IsCornersOf points (a ∷ b ∷ c ∷ []) t = (t.a ≡ point_at points a) × (t.b ≡ point_at points b) × (t.c ≡ point_at points c)
IsCornersOf points _ t = ⊥

-- the weights are small enough to be multiplied
abbrev pub AreSmallWeights : Weights → Type 0
AreSmallWeights w = (w.a ≤ 2 ^ 80) × (w.b ≤ 2 ^ 80) × (w.c ≤ 2 ^ 80)

-- the list still has all pairs that it had
abbrev pub KeepsPairs : (old new : List Pair) → Type 0
KeepsPairs old new = (p : Pair) → Contains old p → Contains new p

-- the list has no other pairs than before and p
abbrev pub IsOneMore : (old : List Pair) → Pair → (new : List Pair) → Type 0
IsOneMore old p new = (q : Pair) → Contains new q → Contains old q ⊎ (q ≡ p)

-- the two lists have the same pairs
abbrev pub AreSamePairs : (old new : List Pair) → Type 0
AreSamePairs old new = KeepsPairs old new × KeepsPairs new old

-- the pair at an index
abbrev pub pair_in : List Pair → ℕ → Pair
pair_in pairs i = slice_index_or pairs i (record { first = 0; second = 0 })

-- the pair is listed, or apart
abbrev pub IsKnown : List Point → List (List ℕ) → List Pair → (i j : ℕ) → Type 0
IsKnown points faces pairs i j = IsListedPair pairs i j ⊎ AreFacesApart points (face_at faces i) (face_at faces j)

-- the same of each pair of faces
abbrev pub ArePairsKnown : List Point → List (List ℕ) → List Pair → Type 0
ArePairsKnown points faces pairs = (i j : ℕ) → i < j → j < length faces → IsKnown points faces pairs i j

-- the same of two numbers, the smaller first
pub record IsKnownEither (points : List Point) (faces : List (List ℕ)) (pairs : List Pair) (i j : ℕ) : Type 0 where
  pub forth : i < j → IsKnown points faces pairs i j
  pub back : j < i → IsKnown points faces pairs j i

-- the same of the numbers at two indices
abbrev pub AreRanksKnown : List Point → List (List ℕ) → List ℕ → List Pair → (r s : ℕ) → Type 0
AreRanksKnown points faces numbers pairs r s =
    IsKnownEither points faces pairs (slice_index numbers r) (slice_index numbers s)

-- the same of all before index n
abbrev pub AreAllKnown : List Point → List (List ℕ) → List ℕ → List Pair → (n : ℕ) → Type 0
AreAllKnown points faces numbers pairs n =
    (r s : ℕ) → s < r → r < n → AreRanksKnown points faces numbers pairs r s
