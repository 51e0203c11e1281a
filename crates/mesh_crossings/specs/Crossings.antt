-- Pairs of faces that cross.
--
--   AreOrdered faces p            two faces, the smaller number first
--   AreCrossing points faces p    two faces share a point that is no common corner and on no common edge
--   IsListedPair pairs i j       the pair of numbers is listed
--   IsRising pairs                the pairs ascend, so each stands once
--   AreDisjoint one other         no pair is in both lists
--   AreCrossingPairs points faces crossing undecided   pairs that cross are listed, or undecided
use Rattle.std.specs.Prelude.{ℕ, ◌<◌, ◌⊎◌, List, length, All, AllPairs, Contains}
use Rattle.geo_sign.specs.Point.{Point}
use Rattle.mesh_edges.specs.Edges.{face_at}
use Rattle.mesh_edges.specs.Pairs.{key_of_pair}
use Rattle.mesh_edges.specs.declared.pairs.Pair.{Pair}
use Rattle.triangles.specs.Gaps.{AreFacesApart}

-- two faces, the smaller number first
abbrev pub AreOrdered : List (List ℕ) → Pair → Type 0
AreOrdered faces p = (p.first < p.second) × (p.second < length faces)

-- two faces that are not apart
abbrev pub AreCrossing : List Point → List (List ℕ) → Pair → Type 0
AreCrossing points faces p =
    AreOrdered faces p × (¬ AreFacesApart points (face_at faces p.first) (face_at faces p.second))

-- the pair of numbers is listed
abbrev pub IsListedPair : List Pair → (i j : ℕ) → Type 0
IsListedPair pairs i j = Contains pairs (record { first = i; second = j })

-- each pair is before those behind it
abbrev pub IsRising : List Pair → Type 0
IsRising pairs = AllPairs (λ p q. key_of_pair p < key_of_pair q) pairs

-- no pair is in both lists
abbrev pub AreDisjoint : (one other : List Pair) → Type 0
AreDisjoint one other = (p : Pair) → Contains one p → Contains other p → ⊥

-- Listed pairs cross, each once. Any other pair is apart, or among the undecided, where each stands once too. No pair is in both lists.
pub record AreCrossingPairs (points : List Point) (faces : List (List ℕ)) (crossing undecided : List Pair) : Type 0 where
  pub each : All (AreCrossing points faces) crossing
  pub once : IsRising crossing
  pub undecided_each : All (AreOrdered faces) undecided
  pub undecided_once : IsRising undecided
  pub disjoint : AreDisjoint crossing undecided
  pub rest :
      (i j : ℕ) → i < j → j < length faces
      → IsListedPair crossing i j ⊎ (IsListedPair undecided i j ⊎ AreFacesApart points (face_at faces i) (face_at faces j))
