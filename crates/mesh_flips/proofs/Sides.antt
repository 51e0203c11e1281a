-- The three sides of a face, counted.
--
-- A face with three distinct corners has each of its sides once. So whether it has the edge from u to v is the number of its
-- sides that go there, which is the same however the face is turned.
use Rattle.std.proofs.Common.{ℕ, ◌≡◌, ◌≢◌, ◌+◌, inl, inr, ap, sym, arith, List, [], ◌∷◌}
use Rattle.std.proofs.lemmas.Bool.Decides.{nat_tests}
use Rattle.mesh_edges.specs.Edges.{is_edge, has_edge}
use Rattle.mesh_edges.proofs.Counts.{one_if}
use Rattle.mesh_flips.specs.Turns.{IsTriangle, IsCycled}

-- 1 where the edge from u to v is that from a to b, else 0
unfoldable pub one_side : (u v a b : ℕ) → ℕ
one_side u v a b = one_if (is_edge u v a b)

-- 1 where the face has the edge from u to v, else 0
unfoldable pub sides : (u v : ℕ) → List ℕ → ℕ
sides u v f = one_if (has_edge u v f)

-- the same, seen from the other end
pub side_back : (u v a b : ℕ) → one_side u v a b ≡ one_side v u b a
unfolding one_side
side_back u v a b = grind (arith, nat_tests)

pub three_sides : (u v a b c : ℕ) → a ≢ b → b ≢ c → c ≢ a
    → sides u v (a ∷ b ∷ c ∷ []) ≡ one_side u v a b + one_side u v b c + one_side u v c a
unfolding one_side sides
three_sides u v a b c ab bc ca = grind (arith, nat_tests)

-- a face that is turned is a triangle too, and has the same sides
pub turned_triangle : (n : ℕ) (f g : List ℕ) → IsTriangle n f → IsCycled f g → IsTriangle n g
turned_triangle n [] g o t = absurd o
turned_triangle n (a ∷ []) g o t = absurd o
turned_triangle n (a ∷ b ∷ []) g o t = absurd o
turned_triangle n (a ∷ b ∷ c ∷ d ∷ x) g o t = absurd o
turned_triangle n (a ∷ b ∷ c ∷ []) g (ab, bc, ca, na, nb, nc) t =
    elim t [
      | inl e ↦ rw e (ab, bc, ca, na, nb, nc)
      | inr s ↦ elim s [
        | inl e ↦ rw e (bc, ca, ab, nb, nc, na)
        | inr e ↦ rw e (ca, ab, bc, nc, na, nb)
      ]
    ]

pub turned_sides : (n u v : ℕ) (f g : List ℕ) → IsTriangle n f → IsCycled f g → sides u v f ≡ sides u v g
turned_sides n u v [] g o t = absurd o
turned_sides n u v (a ∷ []) g o t = absurd o
turned_sides n u v (a ∷ b ∷ []) g o t = absurd o
turned_sides n u v (a ∷ b ∷ c ∷ d ∷ x) g o t = absurd o
turned_sides n u v (a ∷ b ∷ c ∷ []) g (ab, bc, ca, _, _, _) t =
    elim t [
      | inl e ↦ ap (sides u v) (sym e)
      | inr s ↦ elim s [
        | inl e ↦ omega (arith, ap (sides u v) e, three_sides u v a b c ab bc ca, three_sides u v b c a bc ca ab)
        | inr e ↦ omega (arith, ap (sides u v) e, three_sides u v a b c ab bc ca, three_sides u v c a b ca ab bc)
      ]
    ]
