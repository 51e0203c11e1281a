-- Pairs of faces that are listed are kept, and all others are apart.
use Rattle.std.proofs.Common.{ℕ, ◌≡◌, ◌<◌, inl, inr, subst, List, length}
use Rattle.geo_sign.specs.Point.{Point}
use Rattle.mesh_edges.specs.declared.pairs.Pair.{Pair}
use Rattle.mesh_crossings.specs.Crossings.{AreCrossingPairs, IsListedPair}
use Rattle.mesh_simplify.specs.Simplified.{AreApartOrKept}
use Rattle.mesh_simplify.specs.Tested.{IsOldFaceAt, ArePairsOld}

-- both faces of a listed pair are kept
listed : (old_points points : List Point) (from : List ℕ) (old_faces faces : List (List ℕ)) (pairs : List Pair) (i j : ℕ)
    → ArePairsOld old_points points from old_faces faces pairs → IsListedPair pairs i j
    → IsOldFaceAt old_points points from old_faces faces i × IsOldFaceAt old_points points from old_faces faces j
listed old_points points from old_faces faces pairs i j kept has =
    let Kept : ℕ → Type 0 = IsOldFaceAt old_points points from old_faces faces in
    subst (λ (p : Pair). Kept p.first × Kept p.second) has.2 (kept has.0 (record { first = i; second = j }) has.1)

pub apart_or_kept : (old_points points : List Point) (faces : List (List ℕ)) (from : List ℕ) (old_faces : List (List ℕ))
    (crossing undecided : List Pair) → AreCrossingPairs points faces crossing undecided
    → ArePairsOld old_points points from old_faces faces crossing → ArePairsOld old_points points from old_faces faces undecided
    → (i j : ℕ) → i < j → j < length faces
    → AreApartOrKept old_points points faces from old_faces i j
apart_or_kept old_points points faces from old_faces crossing undecided pairs one other i j l m =
    elim (pairs.rest i j l m) [
      | inl has ↦ inr (listed old_points points from old_faces faces crossing i j one has)
      | inr more ↦ elim more [
        | inl has ↦ inr (listed old_points points from old_faces faces undecided i j other has)
        | inr apart ↦ inl apart
      ]
    ]

-- the same of lists that are read through borrowed slices
pub kept_read : (old_points points : List Point) (from : List ℕ) (old_faces faces : List (List ℕ)) (p q : List Pair) → p ≡ q
    → ArePairsOld old_points points from old_faces faces p → ArePairsOld old_points points from old_faces faces q
kept_read old_points points from old_faces faces p q e kept =
    subst (λ (x : List Pair). ArePairsOld old_points points from old_faces faces x) e kept
