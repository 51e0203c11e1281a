-- A paired mesh has each directed edge as often as its reverse.
--
-- A face has a directed edge where one of its three half edges runs along it. So the faces with the edge from u to v are counted by a sum
-- over half edges. Taken at the twins, that sum is the one for the edge from v to u; and the twins are all half edges once, so it has not
-- changed.
use Rattle.std.proofs.Common.{ℕ, zero, suc, ◌≡◌, ◌≢◌, ◌+◌, ◌-◌, ◌*◌, ◌/◌, ◌%◌, ◌<◌, ◌≤◌, ◌==◌, refl, ap, sym, ◌∙◌, subst, arith}
use Rattle.std.proofs.Common.{List, [], ◌∷◌, length, get_or, take}
use Rattle.std.specs.List.{All}
use Rattle.std.proofs.lemmas.Bool.Decides.{nat_tests}
use Rattle.std.proofs.lemmas.List.{take_all}
use Rattle.mesh.specs.Meshes.{IsFace}
use Rattle.mesh_edges.specs.Edges.{face_at, is_edge, has_edge, faces_with_edge, IsBalanced}
use Rattle.mesh_edges.proofs.Counts.{one_if}
use Rattle.mesh_edges.proofs.EdgeCounts.{edge_count_more}
use Rattle.mesh_edges.specs.HalfEdges.{start, behind, IsTwin, ArePaired}
use Rattle.mesh_edges.specs.Laws.{PairedAreClosed}
use Rattle.mesh_edges.proofs.Sums.{sum_below, sum_next, sum_none, sum_same, sum_involution, sum_by_threes}

-- 1 where the edge from u to v is that from a to b, else 0
unfoldable pub along : (u v a b : ℕ) → ℕ
along u v a b = one_if (is_edge u v a b)

-- at most once
pub along_yes : (u v a b : ℕ) → along u v a b ≤ 1
unfolding along
along_yes u v a b = grind (arith, nat_tests)

-- once, if the two are the same
pub along_one : (u v a b : ℕ) → u ≡ a → v ≡ b → along u v a b ≡ 1
unfolding along
along_one u v a b e f = grind (arith, nat_tests, e, f)

-- one test for it
pub along_is : (u v a b : ℕ) → along u v a b ≡ one_if (is_edge u v a b)
unfolding along
along_is u v a b = refl

-- only if the two are the same
pub along_some : (u v a b : ℕ) → along u v a b ≢ 0 → (u ≡ a) × (v ≡ b)
unfolding along
along_some u v a b some = (grind (arith, nat_tests, some), grind (arith, nat_tests, some))

-- 1 where the face has the edge from u to v, else 0
unfoldable pub has : (u v : ℕ) → List ℕ → ℕ
has u v f = one_if (has_edge u v f)

along_back : (u v a b : ℕ) → along u v a b ≡ along v u b a
unfolding along
along_back u v a b = grind (arith, nat_tests)

pub has_three : (u v a b c : ℕ) → (a ≡ b → ⊥) → (b ≡ c → ⊥) → (c ≡ a → ⊥)
    → has u v (a ∷ b ∷ c ∷ []) ≡ along u v a b + along u v b c + along u v c a
unfolding along has
has_three u v a b c ab bc ca = grind (arith, nat_tests)

pub start_at : (faces : List (List ℕ)) (f k : ℕ) → k < 3 → start faces (3 * f + k) ≡ get_or (face_at faces f) k 0
start_at faces f k l =
    let q : (3 * f + k) / 3 ≡ f = omega arith in
    let r : (3 * f + k) % 3 ≡ k = omega arith in
    ap (λ (i : ℕ). get_or (get_or faces i []) ((3 * f + k) % 3) 0) q ∙ ap (λ (j : ℕ). get_or (get_or faces f []) j 0) r

behind_first : (f : ℕ) → behind (3 * f + 0) ≡ 3 * f + 1
behind_first f = let r : (3 * f + 0) % 3 ≡ 0 = omega arith in rw r (omega arith)

behind_second : (f : ℕ) → behind (3 * f + 1) ≡ 3 * f + 2
behind_second f = let r : (3 * f + 1) % 3 ≡ 1 = omega arith in rw r (omega arith)

behind_third : (f : ℕ) → behind (3 * f + 2) ≡ 3 * f + 0
behind_third f = let r : (3 * f + 2) % 3 ≡ 2 = omega arith in rw r (omega arith)

module _ (faces : List (List ℕ)) where
  -- 1 where a half edge runs from u to v, else 0
  abbrev pub runs : (u v h : ℕ) → ℕ
  runs u v h = along u v (start faces h) (start faces (behind h))

  runs_at : (u v f k x y : ℕ) → start faces (3 * f + k) ≡ x → start faces (behind (3 * f + k)) ≡ y
      → runs u v (3 * f + k) ≡ along u v x y
  runs_at u v f k x y ex ey =
      ap (λ (s : ℕ). along u v s (start faces (behind (3 * f + k)))) ex ∙ ap (along u v x) ey

  -- the three half edges of a face
  of_face : (n u v f : ℕ) (g : List ℕ) → face_at faces f ≡ g → IsFace n g
      → runs u v (3 * f + 0) + runs u v (3 * f + 1) + runs u v (3 * f + 2) ≡ has u v g
  of_face n u v f [] e o = absurd o
  of_face n u v f (a ∷ []) e o = absurd o
  of_face n u v f (a ∷ b ∷ []) e o = absurd o
  of_face n u v f (a ∷ b ∷ c ∷ d ∷ x) e o = absurd o
  of_face n u v f (a ∷ b ∷ c ∷ []) e (ab, ac, bc, nb, nc) =
      let s : start faces (3 * f + 0) ≡ a = start_at faces f 0 (omega arith) ∙ ap (λ (g : List ℕ). get_or g 0 0) e in
      let t : start faces (3 * f + 1) ≡ b = start_at faces f 1 (omega arith) ∙ ap (λ (g : List ℕ). get_or g 1 0) e in
      let w : start faces (3 * f + 2) ≡ c = start_at faces f 2 (omega arith) ∙ ap (λ (g : List ℕ). get_or g 2 0) e in
      omega (
        arith,
        runs_at u v f 0 a b s (ap (start faces) (behind_first f) ∙ t),
        runs_at u v f 1 b c t (ap (start faces) (behind_second f) ∙ w),
        runs_at u v f 2 c a w (ap (start faces) (behind_third f) ∙ s),
        has_three u v a b c (λ q. omega arith) bc (λ q. omega arith),
      )

  -- counted by faces and by half edges
  pub by_faces : (n u v : ℕ) → All (IsFace n) faces
      → sum_below (runs u v) (3 * length faces) ≡ sum_below (λ f. has u v (face_at faces f)) (length faces)
  by_faces n u v each =
      sum_by_threes (runs u v) (length faces)
      ∙ sum_same (λ f. runs u v (3 * f) + runs u v (3 * f + 1) + runs u v (3 * f + 2)) (λ f. has u v (face_at faces f))
      (length faces)
      (λ f l.
      let e : 3 * f ≡ 3 * f + 0 = omega arith in
      ap (λ (h : ℕ). runs u v h + runs u v (3 * f + 1) + runs u v (3 * f + 2)) e
      ∙ of_face n u v f (face_at faces f) refl (each f [] l))

  -- the twin runs the other way
  at_twin : (twins : List ℕ) (u v h : ℕ) → ArePaired faces twins → h < length twins
      → runs u v (get_or twins h 0) ≡ runs v u h
  at_twin twins u v h paired l =
      let t : ℕ = get_or twins h 0 in
      let here = paired.each h l in
      let there = paired.each t here.within in
      let s : start faces (behind t) ≡ start faces h = sym there.edge ∙ ap (start faces) here.back in
      ap (λ (x : ℕ). along u v x (start faces (behind t))) here.edge
      ∙ (ap (along u v (start faces (behind h))) s ∙ along_back u v (start faces (behind h)) (start faces h))

-- the faces with an edge, as a sum
count_front : (u v : ℕ) (faces : List (List ℕ)) (i : ℕ) → i ≤ length faces
    → faces_with_edge u v (take i faces) ≡ sum_below (λ f. has u v (face_at faces f)) i
unfolding has
count_front u v faces zero l = sym (sum_none (λ f. has u v (face_at faces f)))
count_front u v faces (suc i) l =
    let e : suc i ≡ i + 1 = omega arith in
    omega (
      arith,
      ap (λ (k : ℕ). faces_with_edge u v (take k faces)) e,
      edge_count_more u v faces i [] (omega arith),
      count_front u v faces i (omega arith),
      sum_next (λ f. has u v (face_at faces f)) i,
    )

pub count_all : (u v : ℕ) (faces : List (List ℕ))
    → faces_with_edge u v faces ≡ sum_below (λ f. has u v (face_at faces f)) (length faces)
count_all u v faces =
    ap (λ (fs : List (List ℕ)). faces_with_edge u v fs) (sym (take_all (length faces) faces (omega arith)))
    ∙ count_front u v faces (length faces) (omega arith)

pub paired_closed : PairedAreClosed
paired_closed n faces twins each paired u v =
    let t : ℕ → ℕ = λ h. get_or twins h 0 in
    let m : ℕ = 3 * length faces in
    count_all u v faces
    ∙ (sym (by_faces faces n u v each)
    ∙ (sym (sum_involution t (runs faces u v) m
    (λ h l. omega (arith, (paired.each h (omega (arith, paired.count))).within, paired.count))
    (λ h l. (paired.each h (omega (arith, paired.count))).back))
    ∙ (sum_same (λ h. runs faces u v (t h)) (runs faces v u) m
    (λ h l. at_twin faces twins u v h paired (omega (arith, paired.count)))
    ∙ (by_faces faces n v u each ∙ sym (count_all v u faces)))))
