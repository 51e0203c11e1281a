-- Faces with the same vertices have the same number. So if no number occurs twice, no two faces have the same vertices.
use Rattle.std.proofs.Common.{ℕ, ◌≡◌, ◌+◌, ◌*◌, ◌<◌, ◌≤◌, ◌^◌, ◌==◌, ◌||◌, ◌⊎◌, inl, inr, ap, sym, subst, ◌∙◌, arith, true, false, List, [], ◌∷◌, length, get_or, map}
use Rattle.std.proofs.Common.{eq-eqb}
use Rattle.std.specs.List.{All}
use Rattle.std.specs.List.Sorted.{IsPermutation}
use Rattle.std.proofs.lemmas.Bool.{or_cases, eqb-true, false≢true}
use Rattle.std.proofs.lemmas.List.{get_or-map, length-map}
use Rattle.std.proofs.lemmas.List.Sorted.{sum_by-IsPermutation}
use Rattle.mesh.specs.Meshes.{IsFace, is_vertex_of}
use Rattle.mesh_edges.specs.Edges.{face_at}
use Rattle.mesh_edges.proofs.Counts.{one_if}
use Rattle.mesh_simplify.proofs.EdgeKeys.{times}
use Rattle.mesh_simplify.specs.Keys.{face_key}
use Rattle.mesh_simplify.specs.Simplified.{HaveSameVertices, AreDistinct}
use Rattle.mesh_simplify.proofs.Twice.{twice}

-- a vertex of three is one of them
pub one_of : (v d e h : ℕ) → is_vertex_of v (d ∷ e ∷ h ∷ []) ≡ true → (d ≡ v) ⊎ ((e ≡ v) ⊎ (h ≡ v))
one_of v d e h is =
    elim (or_cases (d == v) ((e == v) || ((h == v) || false)) is) [
      | inl p ↦ inl (eqb-true d v p)
      | inr p ↦ elim (or_cases (e == v) ((h == v) || false) p) [
        | inl q ↦ inr (inl (eqb-true e v q))
        | inr q ↦ elim (or_cases (h == v) false q) [ inl r ↦ inr (inr (eqb-true h v r)) | inr r ↦ absurd (false≢true r) ]
      ]
    ]

-- the numbers of three vertices in either order
same_three : (a b c d e h : ℕ) → a < b → a < c → ¬ (b ≡ c) → d < e → d < h → (d ≡ a) ⊎ ((e ≡ a) ⊎ (h ≡ a))
    → (d ≡ b) ⊎ ((e ≡ b) ⊎ (h ≡ b)) → (d ≡ c) ⊎ ((e ≡ c) ⊎ (h ≡ c))
    → face_key (a ∷ b ∷ c ∷ []) ≡ face_key (d ∷ e ∷ h ∷ [])
same_three a b c d e h ab ac bc de dh (inl p) (inr (inl q)) (inr (inr r)) = omega arith
same_three a b c d e h ab ac bc de dh (inl p) (inr (inr q)) (inr (inl r)) = omega arith
same_three a b c d e h ab ac bc de dh (inl p) (inl q) t = absurd (omega arith)
same_three a b c d e h ab ac bc de dh (inl p) (inr q) (inl r) = absurd (omega arith)
same_three a b c d e h ab ac bc de dh (inl p) (inr (inl q)) (inr (inl r)) = absurd (bc (omega arith))
same_three a b c d e h ab ac bc de dh (inl p) (inr (inr q)) (inr (inr r)) = absurd (bc (omega arith))
same_three a b c d e h ab ac bc de dh (inr (inl p)) (inl q) t = absurd (omega arith)
same_three a b c d e h ab ac bc de dh (inr (inl p)) (inr (inl q)) t = absurd (omega arith)
same_three a b c d e h ab ac bc de dh (inr (inl p)) (inr (inr q)) (inl r) = absurd (omega arith)
same_three a b c d e h ab ac bc de dh (inr (inl p)) (inr (inr q)) (inr (inl r)) = absurd (omega arith)
same_three a b c d e h ab ac bc de dh (inr (inl p)) (inr (inr q)) (inr (inr r)) = absurd (bc (omega arith))
same_three a b c d e h ab ac bc de dh (inr (inr p)) (inl q) t = absurd (omega arith)
same_three a b c d e h ab ac bc de dh (inr (inr p)) (inr (inr q)) t = absurd (omega arith)
same_three a b c d e h ab ac bc de dh (inr (inr p)) (inr (inl q)) (inl r) = absurd (omega arith)
same_three a b c d e h ab ac bc de dh (inr (inr p)) (inr (inl q)) (inr (inl r)) = absurd (bc (omega arith))
same_three a b c d e h ab ac bc de dh (inr (inr p)) (inr (inl q)) (inr (inr r)) = absurd (omega arith)

-- faces with the same vertices have the same number
pub same_key : (n : ℕ) (f g : List ℕ) → IsFace n f → IsFace n g → HaveSameVertices f g → face_key f ≡ face_key g
same_key n [] g i j same = absurd i
same_key n (a ∷ []) g i j same = absurd i
same_key n (a ∷ b ∷ []) g i j same = absurd i
same_key n (a ∷ b ∷ c ∷ d ∷ x) g i j same = absurd i
same_key n (a ∷ b ∷ c ∷ []) [] i j same = absurd j
same_key n (a ∷ b ∷ c ∷ []) (d ∷ []) i j same = absurd j
same_key n (a ∷ b ∷ c ∷ []) (d ∷ e ∷ []) i j same = absurd j
same_key n (a ∷ b ∷ c ∷ []) (d ∷ e ∷ h ∷ y ∷ x) i j same = absurd j
same_key n (a ∷ b ∷ c ∷ []) (d ∷ e ∷ h ∷ []) i j same =
    same_three a b c d e h i.0 i.1 i.2 j.0 j.1 (one_of a d e h (same 0 0 (omega arith))) (one_of b d e h (same 1 0 (omega arith)))
    (one_of c d e h (same 2 0 (omega arith)))

pub distinct_by_keys : (n : ℕ) (faces : List (List ℕ)) (keys moved : List ℕ) → All (IsFace n) faces → keys ≡ map face_key faces
    → IsPermutation keys moved → ((k : ℕ) → times k moved ≤ 1)
    → AreDistinct faces
distinct_by_keys n faces keys moved each keys_are perm single i j l m same =
    let k : ℕ = face_key (face_at faces i) in
    let il : i < length faces = omega arith in
    let equal : face_key (face_at faces i) ≡ face_key (face_at faces j) =
    same_key n (face_at faces i) (face_at faces j) (each i [] il) (each j [] m) same in
    let count : length (map face_key faces) ≡ length faces = length-map faces face_key in
    let one : (get_or (map face_key faces) i 0 == k) ≡ true = eq-eqb _ _ (get_or-map face_key faces i [] 0 il) in
    let other : (get_or (map face_key faces) j 0 == k) ≡ true = eq-eqb _ _ (get_or-map face_key faces j [] 0 m ∙ sym equal) in
    let two : 2 ≤ times k (map face_key faces) = twice (λ (x : ℕ). x == k) (map face_key faces) 0 i j l (omega arith) one other in
    let two_moved : 2 ≤ times k keys = subst (λ (xs : List ℕ). 2 ≤ times k xs) (sym keys_are) two in
    omega (arith, single k, sum_by-IsPermutation (λ x. one_if (x == k)) keys moved perm)
