-- Sorted numbers are all numbers, and the faces with these numbers are triangles.
use Rattle.std.proofs.Common.{ℕ, ◌≡◌, ◌<◌, arith, List, [], ◌∷◌, length, get_or, map, subst, sym}
use Rattle.std.specs.List.{All}
use Rattle.std.specs.List.Sorted.{IsPermutation}
use Rattle.std.proofs.lemmas.List.Sorted.{All-permutation, Contains-permutation, IsPermutation-map}
use Rattle.std.proofs.lemmas.List.{get_or-map, length-map}
use Rattle.mesh.specs.Meshes.{below, IsFace}
use Rattle.mesh.proofs.Vertices.{get_or-below, length_below}
use Rattle.mesh_edges.specs.Edges.{face_at}
use Rattle.mesh_flips.specs.Orders.{Covers, face_number}
use Rattle.mesh_flips.specs.Turns.{IsTriangle}
use Rattle.mesh_flips.specs.declared.order.Ranked.{Ranked}

pub covered : (n : ℕ) (xs ys : List Ranked) → map face_number xs ≡ below n → IsPermutation xs ys → Covers n (map face_number ys)
covered n xs ys e moved =
    let p : IsPermutation (below n) (map face_number ys) =
    subst (λ (t : List ℕ). IsPermutation t (map face_number ys)) e (IsPermutation-map face_number xs ys moved) in
    record {
      below =
          All-permutation (λ i. i < n) (below n) (map face_number ys) p
          (λ k d l. omega (arith, l, length_below n, get_or-below n k d (omega (arith, l, length_below n))));
      all = λ i l.
          Contains-permutation (below n) (map face_number ys) i p (i, omega (arith, l, length_below n), get_or-below n i i l);
    }

-- faces are triangles
pub face_triangle : (n : ℕ) (f : List ℕ) → IsFace n f → IsTriangle n f
face_triangle n [] o = absurd o
face_triangle n (a ∷ []) o = absurd o
face_triangle n (a ∷ b ∷ []) o = absurd o
face_triangle n (a ∷ b ∷ c ∷ d ∷ x) o = absurd o
face_triangle n (a ∷ b ∷ c ∷ []) (ab, ac, bc, nb, nc) =
    (λ e. omega (arith, ab, e), bc, λ e. omega (arith, ac, e), omega (arith, ab, nb), nb, nc)

-- all faces are, and so those with some numbers
pub triangles : (n : ℕ) (faces : List (List ℕ)) → All (IsFace n) faces → All (IsTriangle n) faces
triangles n faces each i d l = face_triangle n (get_or faces i d) (each i d l)

pub sorted_triangles : (n : ℕ) (faces sorted : List (List ℕ)) (numbers : List ℕ) → sorted ≡ map (face_at faces) numbers
    → All (λ i. i < length faces) numbers → All (IsFace n) faces → All (IsTriangle n) sorted
sorted_triangles n faces sorted numbers is below each =
    subst (All (IsTriangle n)) (sym is)
    (λ i d l.
    let m : i < length numbers = omega (arith, l, length-map numbers (face_at faces)) in
    subst (IsTriangle n) (sym (get_or-map (face_at faces) numbers i 0 d m))
    (triangles n faces each (get_or numbers i 0) [] (below i 0 m)))
