-- A vertex is one of a tetrahedron's four or none of them, and the tetrahedron can be written with it last.
-- Depends on: Writings.
use Rattle.std.proofs.Common.{[], ℕ, ◌≡◌, ◌≢◌, refl, sym, ◌⊎◌, inl, inr, ⊎_elim, Bool, true, false, eqb}
use Rattle.std.proofs.Common.{◌∷◌}
use Rattle.std.proofs.lemmas.Bool.{eqb-true, eqb-false}
use Rattle.geo_sign.specs.Tetrahedron.{Tetrahedron}
use Rattle.geo_sign.specs.Writings.{IsVertexOf, IsRewritten, spin, swap}
use Rattle.geo_sign.proofs.CellRows.{Led, first}
use Rattle.geo_sign.proofs.Rewritings.{rewritten_after}

number_or_not : (u a : ℕ) → (u ≡ a) ⊎ (u ≢ a)
number_or_not u a = pick (eqb u a) refl
  where
    pick : (b : Bool) → eqb u a ≡ b → (u ≡ a) ⊎ (u ≢ a)
    pick true e = inl (eqb-true u a e)
    pick false e = inr (eqb-false u a e)

pub record IsNoneOf (q : Tetrahedron) (u : ℕ) : Type 0 where
  pub a : q.a ≢ u
  pub b : q.b ≢ u
  pub c : q.c ≢ u
  pub d : q.d ≢ u

pub of_or_not : (q : Tetrahedron) (u : ℕ) → IsVertexOf q u ⊎ IsNoneOf q u
of_or_not q u =
    ⊎_elim (λ e. inl (inl e))
    (λ a.
    ⊎_elim (λ e. inl (inr (inl e))) (λ b. ⊎_elim (λ e. inl (inr (inr (inl e)))) (λ c. ⊎_elim (λ e. inl (inr (inr (inr e))))
    (λ d. inr (record { a = λ e. a (sym e); b = λ e. b (sym e); c = λ e. c (sym e); d = λ e. d (sym e) }))
    (number_or_not u q.d)) (number_or_not u q.c)) (number_or_not u q.b)) (number_or_not u q.a)

-- written with u last
pub last : (q : Tetrahedron) (u : ℕ) → IsVertexOf q u → (r : Tetrahedron) × IsRewritten q r × (r.d ≡ u)
last q u h =
    let x : Led q u = first q u h in (
      swap (spin (spin (swap x.0))),
      rewritten_after q x.0 (swap (spin (spin (swap x.0)))) x.1 (false ∷ true ∷ true ∷ false ∷ [], refl),
      x.2,
    )
