-- Keys of directed edges, and how often each occurs.
--
-- Sorted keys without two equal neighbors rise strictly, so behind a key all are greater, and each occurs once at most. Each key occurs as
-- often as its edge, and an edge with a vertex past all numbers does not occur.
use Rattle.std.proofs.Common.{ℕ, suc, ◌≡◌, ◌+◌, ◌<◌, ◌≤◌, ◌^◌, ◌==◌, ◌++◌, refl, ap, sym, ◌∙◌, subst, arith, List, [], ◌∷◌, length, get_or, take}
use Rattle.std.proofs.Common.{inl, inr, ◌⊎◌}
use Rattle.std.specs.List.{All, count_by}
use Rattle.std.specs.List.Sorted.{IsNonDecreasingBy, IsPermutation}
use Rattle.std.proofs.lemmas.Bool.{cases_lt}
use Rattle.std.proofs.lemmas.List.{get_or_default}
use Rattle.std.proofs.lemmas.List.Sorted.{sum_by-IsPermutation}
use Rattle.mesh.specs.Meshes.{IsFace}
use Rattle.mesh_edges.specs.Edges.{has_edge, faces_with_edge}
use Rattle.mesh_edges.specs.Pairs.{key_of}
use Rattle.mesh_edges.proofs.Counts.{one_if, hits, hits-cons, hits_none, hit_yes, hit_no}
use Rattle.mesh_edges.proofs.EdgeCounts.{edge_count_more, edge_count_past}
use Rattle.mesh_pieces.specs.Splits.{AreSingle}
use Rattle.mesh_simplify.specs.Keys.{CountsKeys}

-- how often a key occurs
abbrev pub times : ℕ → List ℕ → ℕ
times k keys = hits (λ (j : ℕ). j) k keys

pub keys_more : (faces : List (List ℕ)) (i : ℕ) (keys more face : List ℕ) → i < length faces → face ≡ get_or faces i []
    → CountsKeys (take i faces) keys
    → ((u v : ℕ) → u < 2 ^ 32 → v < 2 ^ 32 → times (key_of u v) more ≡ times (key_of u v) keys + one_if (has_edge u v face))
    → CountsKeys (take (i + 1) faces) more
keys_more faces i keys more face l e was gained u v a b =
    omega (
      arith,
      gained u v a b,
      was u v a b,
      edge_count_more u v faces i [] l,
      ap (λ (f : List ℕ). one_if (has_edge u v f)) e,
    )

-- each number is above those before it
abbrev pub Rises : List ℕ → Type 0
Rises xs = (i j : ℕ) → i < j → j < length xs → get_or xs i 0 < get_or xs j 0

pub rises : (xs : List ℕ) → IsNonDecreasingBy (λ k. k) xs → ((j : ℕ) → j + 1 < length xs → get_or xs j 0 < get_or xs (j + 1) 0)
    → Rises xs
rises xs sorted next i j l m =
    elim (cases_lt (i + 1) j) [
      | inl b ↦ omega (arith, next i (omega arith), sorted (i + 1) j 0 (omega arith) m)
      | inr b ↦ let e : j ≡ i + 1 = omega arith in omega (arith, next i (omega arith), ap (λ (k : ℕ). get_or xs k 0) e)
    ]

-- the first key with those behind it
first_once : (x k : ℕ) (xs : List ℕ) → Rises (x ∷ xs) → times k xs ≤ 1 → times k (x ∷ xs) ≤ 1
first_once x k xs r rest = by (cases_lt x k) (cases_lt k x)
  where
    above : (i d : ℕ) → i < length xs → x < get_or xs i d
    above i d n = omega (arith, r 0 (suc i) (omega arith) (omega arith), get_or_default xs i d 0 n)

    by : (x < k) ⊎ (k ≤ x) → (k < x) ⊎ (x ≤ k) → times k (x ∷ xs) ≤ 1
    by (inl l) _ = omega (arith, rest, hits-cons (λ (j : ℕ). j) k x xs, hit_no x k (λ e. omega arith))
    by (inr l) (inl m) = omega (arith, rest, hits-cons (λ (j : ℕ). j) k x xs, hit_no x k (λ e. omega arith))
    by (inr l) (inr m) =
        let e : x ≡ k = omega arith in
        omega (
          arith,
          hits-cons (λ (j : ℕ). j) k x xs,
          hit_yes x k e,
          hits_none (λ (j : ℕ). j) k xs (λ i d n. omega (arith, above i d n, e)),
        )

pub at_most_once : (xs : List ℕ) (k : ℕ) → Rises xs → times k xs ≤ 1
at_most_once [] k r = omega arith
at_most_once (x ∷ xs) k r =
    first_once x k xs r (at_most_once xs k (λ i j l m. r (suc i) (suc j) (omega arith) (omega arith)))

-- so no edge occurs twice
pub single_by_keys : (faces : List (List ℕ)) (keys moved : List ℕ) → All (IsFace (2 ^ 32)) faces → CountsKeys faces keys
    → IsPermutation keys moved → ((k : ℕ) → times k moved ≤ 1) → AreSingle faces
single_by_keys faces keys moved each counts perm once u v = by (cases_lt u (2 ^ 32)) (cases_lt v (2 ^ 32))
  where
    past : ((u < 2 ^ 32) × (v < 2 ^ 32) → ⊥) → faces_with_edge u v faces ≤ 1
    past beyond = omega (arith, edge_count_past u v (2 ^ 32) faces each beyond)

    by : (u < 2 ^ 32) ⊎ (2 ^ 32 ≤ u) → (v < 2 ^ 32) ⊎ (2 ^ 32 ≤ v) → faces_with_edge u v faces ≤ 1
    by (inl l) (inl m) =
        omega (
          arith,
          counts u v l m,
          once (key_of u v),
          sum_by-IsPermutation (λ j. one_if (j == key_of u v)) keys moved perm,
        )
    by (inr l) _ = past (λ h. omega (arith, h.0))
    by (inl l) (inr m) = past (λ h. omega (arith, h.1))
