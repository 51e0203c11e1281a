-- The test that a facet is one of the four of a tetrahedron says just that.
use Rattle.std.proofs.Common.{ℕ, zero, suc, ◌<◌, ◌≡◌, refl, ap, ap₂, ◌∙◌, ⊎_elim, arith, Bool, true, ◌&&◌, ◌||◌}
use Rattle.std.proofs.Common.{eqb}
use Rattle.std.proofs.lemmas.Bool.{and_parts, or_cases, eq-eqb, eqb-true, or_right}
use Rattle.geo_sign.specs.Tetrahedron.{Tetrahedron, DirectedFacet, facet, facet_of, is_same_facet, is_among}

pub same_itself : (f : DirectedFacet) → is_same_facet f f ≡ true
same_itself f = ap₂ (λ x y. x && y && eqb f.c f.c) (eq-eqb f.a f.a refl) (eq-eqb f.b f.b refl) ∙ eq-eqb f.c f.c refl

pub same_means : (f g : DirectedFacet) → is_same_facet f g ≡ true → f ≡ g
same_means f g h =
    let p = and_parts (eqb f.a g.a && eqb f.b g.b) (eqb f.c g.c) h in
    let q = and_parts (eqb f.a g.a) (eqb f.b g.b) p.0 in
    ap₂ (λ x y. facet x y f.c) (eqb-true f.a g.a q.0) (eqb-true f.b g.b q.1) ∙ ap (λ x. facet g.a g.b x) (eqb-true f.c g.c p.1)

-- a facet of t is among its facets
pub own_facet : (t : Tetrahedron) (k : ℕ) → is_among t (facet_of t k) ≡ true
own_facet t k = at k
  where
    is : (j k : ℕ) → Bool
    is j k = is_same_facet (facet_of t j) (facet_of t k)

    at : (k : ℕ) → is_among t (facet_of t k) ≡ true
    at zero = ap (λ x. x || is 1 0 || is 2 0 || is 3 0) (same_itself (facet_of t 0))
    at (suc zero) = ap (λ x. x || is 2 1 || is 3 1) (or_right (is 0 1) (is 1 1) (same_itself (facet_of t 1)))
    at (suc (suc zero)) = ap (λ x. x || is 3 2) (or_right (is 0 2 || is 1 2) (is 2 2) (same_itself (facet_of t 2)))
    at (suc (suc (suc k))) = or_right (is 0 3 || is 1 3 || is 2 3) (is 3 3) (same_itself (facet_of t 3))

-- what is among them is one of them
pub found : (t : Tetrahedron) (f : DirectedFacet) → is_among t f ≡ true → (k : ℕ) × (k < 4) × (facet_of t k ≡ f)
found t f h =
    ⊎_elim (λ p. ⊎_elim (λ q. ⊎_elim (at 0 (omega arith)) (at 1 (omega arith)) (or_cases (is 0) (is 1) q)) (at 2 (omega arith))
    (or_cases (is 0 || is 1) (is 2) p)) (at 3 (omega arith)) (or_cases (is 0 || is 1 || is 2) (is 3) h)
  where
    is : (k : ℕ) → Bool
    is k = is_same_facet (facet_of t k) f

    at : (k : ℕ) → k < 4 → is k ≡ true → (j : ℕ) × (j < 4) × (facet_of t j ≡ f)
    at k l e = (k, l, same_means (facet_of t k) f e)
