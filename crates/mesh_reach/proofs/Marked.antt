-- What is known of marked points after one more mark.
use Rattle.std.proofs.Common.{ℕ, zero, suc, ◌≡◌, ◌≢◌, ◌<◌, ◌⊎◌, inl, inr, sym, subst, arith, Bool, true, false, List, [], ◌∷◌, length, get_or, set, get_or-set_other}
use Rattle.std.specs.List.{All}
use Rattle.mesh.specs.Meshes.{IsFace}
use Rattle.mesh_flips.proofs.Crossings.{same_or_not}

pub marked_more : (P : ℕ → Type 0) (marks : List Bool) (i v : ℕ) → ((u : ℕ) → get_or marks u false ≡ true → P u) → P i
    → get_or (set marks i true) v false ≡ true
    → P v
marked_more P marks i v before new e = by (same_or_not v i)
  where
    by : (v ≡ i) ⊎ (v ≢ i) → P v
    by (inl same) = subst P (sym same) new
    by (inr ne) = before v (rw get_or-set_other at e)

-- what holds of three corners holds of each corner of a face
pub each_corner : (n : ℕ) (P : ℕ → Type 0) (f : List ℕ) → IsFace n f → P (get_or f 0 0) → P (get_or f 1 0) → P (get_or f 2 0) → All P f
each_corner n P [] i p q r k d l = absurd i
each_corner n P (a ∷ []) i p q r k d l = absurd i
each_corner n P (a ∷ b ∷ []) i p q r k d l = absurd i
each_corner n P (a ∷ b ∷ c ∷ e ∷ x) i p q r k d l = absurd i
each_corner n P (a ∷ b ∷ c ∷ []) i p q r zero d l = p
each_corner n P (a ∷ b ∷ c ∷ []) i p q r (suc zero) d l = q
each_corner n P (a ∷ b ∷ c ∷ []) i p q r (suc (suc zero)) d l = r
each_corner n P (a ∷ b ∷ c ∷ []) i p q r (suc (suc (suc k))) d l = absurd (omega arith)
