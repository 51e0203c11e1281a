-- Counts of directed edges, and what the two lists of pairs say of them.
use Rattle.std.proofs.Common.{ℕ, ◌≡◌, ◌+◌, ◌<◌, ◌≤◌, ◌^◌, ◌==◌, refl, ap, sym, ◌∙◌, arith, Bool, true, false, List, [], ◌∷◌}
use Rattle.std.proofs.Common.{length, get_or, take, inl, inr}
use Rattle.std.specs.List.{All}
use Rattle.std.specs.List.Sorted.{IsPermutation}
use Rattle.std.proofs.lemmas.Bool.{cases_lt}
use Rattle.std.proofs.lemmas.List.Elements.{All-tail}
use Rattle.std.proofs.lemmas.List.Sorted.{sum_by-IsPermutation}
use Rattle.std.proofs.lemmas.List.Sums.{sum_by-cons, sum_by_more, count_by-le-length}
use Rattle.mesh.specs.Meshes.{IsFace}
use Rattle.mesh_edges.specs.Edges.{has_edge, faces_with_edge, ComesFirst, IsBalanced, IsFirstUnbalanced}
use Rattle.mesh_edges.specs.Pairs.{key_of, key_of_pair, key_count, HasGained, IsPairOf, IsFirstUnequalPair}
use Rattle.mesh_edges.specs.declared.pairs.Pair.{Pair}
use Rattle.mesh_edges.proofs.Counts.{one_if}
use Rattle.mesh_edges.proofs.FaceEdges.{edge_within, face_among_more}

-- one face more
pub edge_count_more : (u v : ℕ) (faces : List (List ℕ)) (i : ℕ) (d : List ℕ) → i < length faces
    → faces_with_edge u v (take (i + 1) faces) ≡ faces_with_edge u v (take i faces) + one_if (has_edge u v (get_or faces i d))
edge_count_more u v faces i d l = sum_by_more (λ f. one_if (has_edge u v f)) faces i d l

-- an edge that has a vertex beyond all does not occur
pub edge_count_past : (u v n : ℕ) (faces : List (List ℕ)) → All (IsFace n) faces → ((u < n) × (v < n) → ⊥)
    → faces_with_edge u v faces ≡ 0
edge_count_past u v n [] o past = refl
edge_count_past u v n (f ∷ faces) o past =
    omega (
      arith,
      sum_by-cons (λ g. one_if (has_edge u v g)) f faces,
      none (has_edge u v f) refl,
      edge_count_past u v n faces (All-tail (IsFace n) f faces o) past,
    )
  where
    none : (b : Bool) → has_edge u v f ≡ b → one_if (has_edge u v f) ≡ 0
    none true e = absurd (past (edge_within n u v f (o 0 f (omega arith)) e))
    none false e = ap one_if e

module _ (faces : List (List ℕ)) (there back : List Pair) (each : All (IsFace (2 ^ 32)) faces)
    (pairs : IsPairOf faces there back) where
  -- a pair whose number the two lists have equally often is balanced
  balanced_at : (u v : ℕ) → u < v → (v < 2 ^ 32 → key_count (key_of u v) there ≡ key_count (key_of u v) back)
      → faces_with_edge u v faces ≡ faces_with_edge v u faces
  balanced_at u v l same =
      elim (cases_lt v (2 ^ 32)) [
        | inl m ↦ sym (pairs.there_count u v l m) ∙ (same m ∙ pairs.back_count u v l m)
        | inr m ↦
            let past : (u < 2 ^ 32) × (v < 2 ^ 32) → ⊥ = λ h. omega (arith, h.1) in
            let past' : (v < 2 ^ 32) × (u < 2 ^ 32) → ⊥ = λ h. omega (arith, h.0) in
            edge_count_past u v (2 ^ 32) faces each past ∙ sym (edge_count_past v u (2 ^ 32) faces each past')
      ]

  pub balanced : ((k : ℕ) → key_count k there ≡ key_count k back) → IsBalanced faces
  balanced same u v =
      elim (cases_lt u v) [
        | inl l ↦ balanced_at u v l (λ _. same (key_of u v))
        | inr l ↦ elim (cases_lt v u) [
          | inl m ↦ sym (balanced_at v u m (λ _. same (key_of v u)))
          | inr m ↦
              let e : u ≡ v = omega arith in
              ap (λ (w : ℕ). faces_with_edge u w faces) (sym e) ∙ ap (λ (w : ℕ). faces_with_edge w u faces) e
        ]
      ]

  -- the first difference is the smallest pair that is not balanced, and m and n are its counts
  pub unbalanced : (p : Pair) (m n : ℕ) → p.second < 2 ^ 32 → p.first < p.second → IsFirstUnequalPair there back p
      → m ≡ key_count (key_of_pair p) there → n ≡ key_count (key_of_pair p) back → IsFirstUnbalanced faces p.first p.second m n
  unbalanced p m n small rising d em en =
      record {
        rising = rising;
        there = em ∙ pairs.there_count p.first p.second rising small;
        back = en ∙ pairs.back_count p.first p.second rising small;
        differ = λ e. d.differ (sym em ∙ (e ∙ en));
        smallest = λ a b first.
            elim (cases_lt a b) [
              | inl l ↦ before a b l first
              | inr l ↦ elim (cases_lt b a) [
                | inl m ↦ sym (before b a m (turned a b m first))
                | inr m ↦
                    let e : a ≡ b = omega arith in
                    ap (λ (w : ℕ). faces_with_edge a w faces) (sym e) ∙ ap (λ (w : ℕ). faces_with_edge w a faces) e
              ]
            ];
      }
    where
      turned : (a b : ℕ) → b < a → ComesFirst a b p.first p.second → ComesFirst b a p.first p.second
      turned a b l (inl m) = inl (omega arith)
      turned a b l (inr m) = inl (omega (arith, m.0))

      smaller : (a b : ℕ) → b < 2 ^ 32 → ComesFirst a b p.first p.second → key_of a b < key_of_pair p
      smaller a b l (inl m) = omega arith
      smaller a b l (inr m) = omega (arith, m.0, m.1)

      before : (a b : ℕ) → a < b → ComesFirst a b p.first p.second → faces_with_edge a b faces ≡ faces_with_edge b a faces
      before a b l first = balanced_at a b l (λ m. d.same (key_of a b) (smaller a b m first))

-- one face more
pub pairs_more : (faces : List (List ℕ)) (i : ℕ) (there back there' back' : List Pair) (face : List ℕ) → i < length faces
    → face ≡ get_or faces i [] → IsPairOf (take i faces) there back → HasGained (λ u v. has_edge u v face) there there'
    → HasGained (λ u v. has_edge v u face) back back' → IsPairOf (take (i + 1) faces) there' back'
pairs_more faces i there back there' back' face l e pairs gained gained' =
    record {
      there_count =
          λ u v a b. omega (
            arith,
            gained u v a b,
            pairs.there_count u v a b,
            edge_count_more u v faces i [] l,
            ap (λ (f : List ℕ). one_if (has_edge u v f)) e,
          );
      back_count =
          λ u v a b. omega (
            arith,
            gained' u v a b,
            pairs.back_count u v a b,
            edge_count_more v u faces i [] l,
            ap (λ (f : List ℕ). one_if (has_edge v u f)) e,
          );
    }

-- sorting keeps the counts
pub pairs_moved : (faces : List (List ℕ)) (there back there' back' : List Pair) → IsPairOf faces there back
    → IsPermutation there there' → IsPermutation back back' → IsPairOf faces there' back'
pairs_moved faces there back there' back' pairs moved moved' =
    record {
      there_count =
          λ u v a b. sum_by-IsPermutation (λ p. one_if (key_of_pair p == key_of u v)) there there' moved
          ∙ pairs.there_count u v a b;
      back_count =
          λ u v a b. sum_by-IsPermutation (λ p. one_if (key_of_pair p == key_of u v)) back back' moved'
          ∙ pairs.back_count u v a b;
    }

pub each_among : (n : ℕ) (faces : List (List ℕ)) → n < 2 ^ 32 → All (IsFace n) faces → All (IsFace (2 ^ 32)) faces
each_among n faces l o = λ k d m. face_among_more n (2 ^ 32) (get_or faces k d) (omega arith) (o k d m)

-- a count of pairs is at most the number of faces
pub few : (faces : List (List ℕ)) (u v : ℕ) → faces_with_edge u v faces ≤ length faces
few faces u v = count_by-le-length (has_edge u v) faces
