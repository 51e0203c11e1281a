-- Faces in another order, and written from another corner on.
use Rattle.std.proofs.Common.{ℕ, suc, ◌≡◌, ◌+◌, ◌<◌, ◌++◌, refl, ap, sym, ◌∙◌, subst, arith, inl, inr, List, [], ◌∷◌, length, get_or}
use Rattle.std.specs.List.{All}
use Rattle.std.specs.List.Sorted.{IsPermutation}
use Rattle.std.proofs.lemmas.Bool.{cases_lt}
use Rattle.std.proofs.lemmas.List.{get_or_push, get_or_append_left}
use Rattle.std.proofs.lemmas.List.Elements.{All-head, All-tail}
use Rattle.std.proofs.lemmas.List.Sorted.{sum_by-IsPermutation, IsPermutation-refl}
use Rattle.std.proofs.lemmas.List.Sums.{sum_by-cons}
use Rattle.geo_sign.specs.Point.{Point}
use Rattle.mesh.specs.Meshes.{IsFace}
use Rattle.mesh_edges.specs.Edges.{has_edge, faces_with_edge, IsBalanced, face_at}
use Rattle.mesh_edges.proofs.Counts.{one_if}
use Rattle.mesh_flips.specs.Turns.{IsTriangle, IsCycled}
use Rattle.mesh_flips.specs.Flips.{AreFlips, KeepsSingle}
use Rattle.mesh_flips.proofs.Kept.{flips_excess, flips_triangles}
use Rattle.mesh_flips.proofs.Sides.{sides, turned_sides}
use Rattle.mesh_pieces.specs.Splits.{AreSingle}
use Rattle.mesh_finish.specs.Finished.{AreTurned, AreSmoothed}

-- a face of a mesh is a triangle
pub face_triangle : (n : ℕ) (f : List ℕ) → IsFace n f → IsTriangle n f
face_triangle n [] o = absurd o
face_triangle n (a ∷ []) o = absurd o
face_triangle n (a ∷ b ∷ []) o = absurd o
face_triangle n (a ∷ b ∷ c ∷ d ∷ x) o = absurd o
face_triangle n (a ∷ b ∷ c ∷ []) (ab, ac, bc, nb, nc) =
    (λ e. omega arith, bc, λ e. omega arith, omega arith, nb, nc)

pub faces_triangles : (n : ℕ) (faces : List (List ℕ)) → All (IsFace n) faces → All (IsTriangle n) faces
faces_triangles n faces each = λ k d l. face_triangle n (get_or faces k d) (each k d l)

-- one face more
pub turned_more : (faces ys : List (List ℕ)) (f : List ℕ) (P : List ℕ → List ℕ → Type 0) (i : ℕ) → length ys ≡ i
    → P (face_at faces i) f → ((k : ℕ) → k < i → P (face_at faces k) (face_at ys k))
    → (k : ℕ) → k < i + 1 → P (face_at faces k) (face_at (ys ++ f ∷ []) k)
turned_more faces ys f P i e here below k l =
    elim (cases_lt k i) [
      | inl m ↦
          subst (λ (g : List ℕ). P (face_at faces k) g) (sym (get_or_append_left ys (f ∷ []) [] k (omega arith))) (below k m)
      | inr m ↦
          let s : k ≡ i = omega arith in
          let at : get_or (ys ++ f ∷ []) k [] ≡ f = get_or_push ys f [] k (omega arith) in
          subst (λ (g : List ℕ). P (face_at faces k) g) (sym at)
          (subst (λ (j : ℕ). P (face_at faces j) f) (sym s) here)
    ]

-- a list in another order has each edge as often
pub moved_balanced : (faces sorted : List (List ℕ)) → IsPermutation faces sorted → IsBalanced faces → IsBalanced sorted
moved_balanced faces sorted moved closed u v =
    sum_by-IsPermutation (λ f. one_if (has_edge u v f)) faces sorted moved
    ∙ (closed u v ∙ sym (sum_by-IsPermutation (λ f. one_if (has_edge v u f)) faces sorted moved))

-- a face that is turned has the same edges
same_sides : (n u v : ℕ) (f g : List ℕ) → IsTriangle n f → IsCycled f g → one_if (has_edge u v f) ≡ one_if (has_edge u v g)
unfolding sides
same_sides n u v f g o t = turned_sides n u v f g o t

-- faces that are turned have each edge as often
turned_edges : (n u v : ℕ) (old new : List (List ℕ)) → All (IsTriangle n) old → length new ≡ length old
    → ((i : ℕ) → i < length old → IsCycled (face_at old i) (face_at new i)) → faces_with_edge u v new ≡ faces_with_edge u v old
turned_edges n u v [] [] each count turned = refl
turned_edges n u v [] (g ∷ new) each count turned = absurd (omega arith)
turned_edges n u v (f ∷ old) [] each count turned = absurd (omega arith)
turned_edges n u v (f ∷ old) (g ∷ new) each count turned =
    let here : one_if (has_edge u v f) ≡ one_if (has_edge u v g) =
    same_sides n u v f g (All-head (IsTriangle n) f old each) (turned 0 (omega arith)) in
    omega (
      arith,
      sum_by-cons (λ h. one_if (has_edge u v h)) f old,
      sum_by-cons (λ h. one_if (has_edge u v h)) g new,
      here,
      turned_edges n u v old new (All-tail (IsTriangle n) f old each) (omega arith)
          (λ i l. turned (suc i) (omega arith)),
    )

-- a closed mesh stays closed by all three
pub finished_balanced : (n : ℕ) (old sorted flipped new : List (List ℕ)) → All (IsTriangle n) sorted → All (IsTriangle n) flipped
    → IsPermutation old sorted → AreFlips sorted flipped → AreTurned flipped new → IsBalanced old → IsBalanced new
finished_balanced n old sorted flipped new each after moved flips turned closed u v =
    let was = moved_balanced old sorted moved closed in
    omega (
      arith,
      was u v,
      flips_excess n each flips u v,
      turned_edges n u v flipped new after turned.count turned.each,
      turned_edges n v u flipped new after turned.count turned.each,
    )

-- no directed edge occurs twice after all three that did not before
pub finished_single : (n : ℕ) (old sorted flipped new : List (List ℕ)) → All (IsTriangle n) flipped → IsPermutation old sorted
    → KeepsSingle sorted flipped → AreTurned flipped new → AreSingle old → AreSingle new
finished_single n old sorted flipped new after moved keeps turned once u v =
    omega (
      arith,
      turned_edges n u v flipped new after turned.count turned.each,
      keeps u v (omega (arith, sum_by-IsPermutation (λ f. one_if (has_edge u v f)) old sorted moved, once u v)),
    )

-- a face of a mesh that is written from another corner on, and is a face of a mesh again, is as it was: the smallest number is first
face_same : (n : ℕ) (f g : List ℕ) → IsFace n f → IsFace n g → IsCycled f g → g ≡ f
face_same n [] g o p t = absurd o
face_same n (a ∷ []) g o p t = absurd o
face_same n (a ∷ b ∷ []) g o p t = absurd o
face_same n (a ∷ b ∷ c ∷ d ∷ x) g o p t = absurd o
face_same n (a ∷ b ∷ c ∷ []) g (ab, ac, bc, nb, nc) p (inl e) = e
face_same n (a ∷ b ∷ c ∷ []) g (ab, ac, bc, nb, nc) p (inr (inl e)) =
    let q : IsFace n (b ∷ c ∷ a ∷ []) = subst (λ (h : List ℕ). IsFace n h) e p in absurd (omega (arith, ab, q.1))
face_same n (a ∷ b ∷ c ∷ []) g (ab, ac, bc, nb, nc) p (inr (inr e)) =
    let q : IsFace n (c ∷ a ∷ b ∷ []) = subst (λ (h : List ℕ). IsFace n h) e p in absurd (omega (arith, ac, q.0))

pub faces_same : (n : ℕ) (old new : List (List ℕ)) → All (IsFace n) old → All (IsFace n) new → length new ≡ length old
    → ((i : ℕ) → i < length old → IsCycled (face_at old i) (face_at new i)) → new ≡ old
faces_same n [] [] each after count turned = refl
faces_same n [] (g ∷ new) each after count turned = absurd (omega arith)
faces_same n (f ∷ old) [] each after count turned = absurd (omega arith)
faces_same n (f ∷ old) (g ∷ new) each after count turned =
    let here : g ≡ f =
    face_same n f g (All-head (IsFace n) f old each) (All-head (IsFace n) g new after) (turned 0 (omega arith)) in
    let more : new ≡ old =
    faces_same n old new (All-tail (IsFace n) f old each) (All-tail (IsFace n) g new after) (omega arith)
    (λ i l. turned (suc i) (omega arith)) in
    ap (λ (h : List ℕ). h ∷ new) here ∙ ap (λ (hs : List (List ℕ)). f ∷ hs) more

-- a mesh that is smoothed stays closed, and no directed edge occurs twice that did not
pub smoothed_balanced : (points : List Point) (old : List (List ℕ)) (new_points : List Point) (new : List (List ℕ)) (fine within : ℕ)
    → All (IsTriangle (length points)) old → AreSmoothed points old new_points new fine within → IsBalanced old → IsBalanced new
smoothed_balanced points old new_points new fine within each s =
    finished_balanced (length points) old old s.flipped new each (flips_triangles (length points) each s.smoothed.shape.flips)
    (IsPermutation-refl old) s.smoothed.shape.flips s.turned

pub smoothed_single : (points : List Point) (old : List (List ℕ)) (new_points : List Point) (new : List (List ℕ)) (fine within : ℕ)
    → All (IsTriangle (length points)) old → AreSmoothed points old new_points new fine within → AreSingle old → AreSingle new
smoothed_single points old new_points new fine within each s =
    finished_single (length points) old old s.flipped new (flips_triangles (length points) each s.smoothed.shape.flips)
    (IsPermutation-refl old) s.smoothed.shape.single s.turned
