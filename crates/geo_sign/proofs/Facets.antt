-- Which vertices the facets of a tetrahedron have. Each vertex is opposite to a facet or in it (opposite_or_on), and of distinct
-- vertices the opposite one is not in it (opposite_out), so a facet is that of one side (distinct_sides).
use Rattle.std.proofs.Common.{ℕ, zero, suc, ◌≡◌, ◌<◌, refl, sym, ap, ◌∙◌, ◌⊎◌, inl, inr, subst, arith}
use Rattle.geo_sign.specs.Tetrahedron.{Tetrahedron, DirectedFacet, facet_of, vertex_of, IsRotated, IsTurned}
use Rattle.geo_sign.specs.Writings.{IsVertexOf}
use Rattle.geo_sign.specs.Edges.{HasVertex, over}
use Rattle.geo_sign.proofs.Rotations.{rotated_back, turned_of}

-- the same vertices from another one on
pub in_rotated : (f g : DirectedFacet) (u : ℕ) → IsRotated f g → HasVertex f u → HasVertex g u
in_rotated f g u (inl e) h = subst (λ (t : DirectedFacet). HasVertex t u) (sym e) h
in_rotated f g u (inr (inl e)) (inl h) = inr (inr (h ∙ sym (ap (λ (t : DirectedFacet). t.c) e)))
in_rotated f g u (inr (inl e)) (inr (inl h)) = inl (h ∙ sym (ap (λ (t : DirectedFacet). t.a) e))
in_rotated f g u (inr (inl e)) (inr (inr h)) = inr (inl (h ∙ sym (ap (λ (t : DirectedFacet). t.b) e)))
in_rotated f g u (inr (inr e)) (inl h) = inr (inl (h ∙ sym (ap (λ (t : DirectedFacet). t.b) e)))
in_rotated f g u (inr (inr e)) (inr (inl h)) = inr (inr (h ∙ sym (ap (λ (t : DirectedFacet). t.c) e)))
in_rotated f g u (inr (inr e)) (inr (inr h)) = inl (h ∙ sym (ap (λ (t : DirectedFacet). t.a) e))

-- a facet's vertex is one of the four
pub in_of : (t : Tetrahedron) (k u : ℕ) → HasVertex (facet_of t k) u → IsVertexOf t u
in_of t zero u (inl h) = inr (inl h)
in_of t zero u (inr (inl h)) = inr (inr (inr h))
in_of t zero u (inr (inr h)) = inr (inr (inl h))
in_of t (suc zero) u (inl h) = inl h
in_of t (suc zero) u (inr (inl h)) = inr (inr (inl h))
in_of t (suc zero) u (inr (inr h)) = inr (inr (inr h))
in_of t (suc (suc zero)) u (inl h) = inl h
in_of t (suc (suc zero)) u (inr (inl h)) = inr (inr (inr h))
in_of t (suc (suc zero)) u (inr (inr h)) = inr (inl h)
in_of t (suc (suc (suc k))) u (inl h) = inl h
in_of t (suc (suc (suc k))) u (inr (inl h)) = inr (inl h)
in_of t (suc (suc (suc k))) u (inr (inr h)) = inr (inr (inl h))

-- the sides of a new cell other than the one over its facet have the apex
pub apex_on : (f : DirectedFacet) (p k : ℕ) → k < 3 → HasVertex (facet_of (over f p) k) p
apex_on f p zero h = inr (inl refl)
apex_on f p (suc zero) h = inr (inr refl)
apex_on f p (suc (suc zero)) h = inr (inl refl)
apex_on f p (suc (suc (suc k))) h = absurd (omega (arith, h))

-- ---- the vertices of a tetrahedron and its facets
pub vertex_in : (t : Tetrahedron) (k : ℕ) → IsVertexOf t (vertex_of t k)
vertex_in t zero = inl refl
vertex_in t (suc zero) = inr (inl refl)
vertex_in t (suc (suc zero)) = inr (inr (inl refl))
vertex_in t (suc (suc (suc k))) = inr (inr (inr refl))

-- each vertex of a cell is opposite to a facet, or on it
pub opposite_or_on : (v : Tetrahedron) (k n : ℕ) → IsVertexOf v n → (n ≡ vertex_of v k) ⊎ HasVertex (facet_of v k) n
opposite_or_on v zero n (inl e) = inl e
opposite_or_on v zero n (inr (inl e)) = inr (inl e)
opposite_or_on v zero n (inr (inr (inl e))) = inr (inr (inr e))
opposite_or_on v zero n (inr (inr (inr e))) = inr (inr (inl e))
opposite_or_on v (suc zero) n (inl e) = inr (inl e)
opposite_or_on v (suc zero) n (inr (inl e)) = inl e
opposite_or_on v (suc zero) n (inr (inr (inl e))) = inr (inr (inl e))
opposite_or_on v (suc zero) n (inr (inr (inr e))) = inr (inr (inr e))
opposite_or_on v (suc (suc zero)) n (inl e) = inr (inl e)
opposite_or_on v (suc (suc zero)) n (inr (inl e)) = inr (inr (inr e))
opposite_or_on v (suc (suc zero)) n (inr (inr (inl e))) = inl e
opposite_or_on v (suc (suc zero)) n (inr (inr (inr e))) = inr (inr (inl e))
opposite_or_on v (suc (suc (suc k))) n (inl e) = inr (inl e)
opposite_or_on v (suc (suc (suc k))) n (inr (inl e)) = inr (inr (inl e))
opposite_or_on v (suc (suc (suc k))) n (inr (inr (inl e))) = inr (inr (inr e))
opposite_or_on v (suc (suc (suc k))) n (inr (inr (inr e))) = inl e

abbrev pub IsDistinct : Tetrahedron → Type 0
IsDistinct t = (j k : ℕ) → j < 4 → k < 4 → vertex_of t j ≡ vertex_of t k → j ≡ k

-- the vertex opposite to a facet is not in it
pub opposite_out : (t : Tetrahedron) → IsDistinct t → (k : ℕ) → k < 4 → HasVertex (facet_of t k) (vertex_of t k) → ⊥
opposite_out t d zero l (inl h) = let e = d 0 1 (omega arith) (omega arith) h in omega arith
opposite_out t d zero l (inr (inl h)) = let e = d 0 3 (omega arith) (omega arith) h in omega arith
opposite_out t d zero l (inr (inr h)) = let e = d 0 2 (omega arith) (omega arith) h in omega arith
opposite_out t d (suc zero) l (inl h) = let e = d 1 0 (omega arith) (omega arith) h in omega arith
opposite_out t d (suc zero) l (inr (inl h)) = let e = d 1 2 (omega arith) (omega arith) h in omega arith
opposite_out t d (suc zero) l (inr (inr h)) = let e = d 1 3 (omega arith) (omega arith) h in omega arith
opposite_out t d (suc (suc zero)) l (inl h) = let e = d 2 0 (omega arith) (omega arith) h in omega arith
opposite_out t d (suc (suc zero)) l (inr (inl h)) = let e = d 2 3 (omega arith) (omega arith) h in omega arith
opposite_out t d (suc (suc zero)) l (inr (inr h)) = let e = d 2 1 (omega arith) (omega arith) h in omega arith
opposite_out t d (suc (suc (suc zero))) l (inl h) = let e = d 3 0 (omega arith) (omega arith) h in omega arith
opposite_out t d (suc (suc (suc zero))) l (inr (inl h)) = let e = d 3 1 (omega arith) (omega arith) h in omega arith
opposite_out t d (suc (suc (suc zero))) l (inr (inr h)) = let e = d 3 2 (omega arith) (omega arith) h in omega arith
opposite_out t d (suc (suc (suc (suc k)))) l h = omega arith

-- one side has the facet
pub distinct_sides : (t : Tetrahedron) → IsDistinct t → (j k : ℕ) → j < 4 → k < 4 → IsRotated (facet_of t j) (facet_of t k) → j ≡ k
distinct_sides t d j k l m r = grind (arith, opposite_or_on, vertex_in, opposite_out, in_rotated, rotated_back)

-- the facet in the other direction has the same vertices
pub in_turned : (f g : DirectedFacet) (u : ℕ) → IsTurned f g → HasVertex f u → HasVertex g u
in_turned f g u r h = grind (arith, in_rotated, turned_of)
