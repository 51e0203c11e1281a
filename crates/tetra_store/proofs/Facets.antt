-- Directed facets, turned and written from another vertex on.
--
-- A cell has four vertices and a facet three edges, so each lemma goes through the few indices. Side e of the new cell over f has f's edge e in the other direction and p (side_over): so two new cells have a facet in
-- common, one turned round, where their edges are each other's reverse (edges_turned, same_edge).
use Rattle.std.proofs.Common.{ℕ, zero, suc, ◌≡◌, ◌≢◌, ◌<◌, refl, sym, ap, ◌⊎◌, inl, inr, subst, arith}
use Rattle.geo_sign.specs.Tetrahedron.{Tetrahedron, DirectedFacet, facet, vertex_of, facet_of, IsRotated, IsTurned}
use Rattle.geo_sign.specs.Writings.{IsVertexOf}
use Rattle.geo_sign.specs.Edges.{HasVertex, over, edge_start, edge_end}
use Rattle.geo_sign.proofs.Rotations.{rotated_back, turned_rotated, rotated_turned}
use Rattle.geo_sign.proofs.Facets.{IsDistinct, vertex_in}

abbrev one : DirectedFacet → DirectedFacet
one f = facet f.b f.c f.a

abbrev two : DirectedFacet → DirectedFacet
two f = facet f.c f.a f.b

-- the place of a vertex among the four
pub place_of : (t : Tetrahedron) (u : ℕ) → IsVertexOf t u → (k : ℕ) × (k < 4) × (vertex_of t k ≡ u)
place_of t u (inl e) = (0, omega arith, sym e)
place_of t u (inr (inl e)) = (1, omega arith, sym e)
place_of t u (inr (inr (inl e))) = (2, omega arith, sym e)
place_of t u (inr (inr (inr e))) = (3, omega arith, sym e)

-- what stands at a place is a vertex
pub at_place : (t : Tetrahedron) (k u : ℕ) → vertex_of t k ≡ u → IsVertexOf t u
at_place t k u e = subst (IsVertexOf t) e (vertex_in t k)

-- ---- cells over a facet with p

-- side e of the cell over f has f's edge e in the other direction, and p
pub side_over : (f : DirectedFacet) (p e : ℕ) → e < 3
    → IsRotated (facet (edge_end f e) (edge_start f e) p) (facet_of (over f p) e)
side_over f p zero l = inr (inl refl)
side_over f p (suc zero) l = inl refl
side_over f p (suc (suc zero)) l = inr (inl refl)
side_over f p (suc (suc (suc e))) l = absurd (omega arith)

-- facets with p whose other vertices are not p have the same edge
pub same_edge : (u w x y p : ℕ) → u ≢ p → w ≢ p → IsRotated (facet u w p) (facet x y p) → (u ≡ x) × (w ≡ y)
same_edge u w x y p a b (inl e) = (sym (ap (λ (t : DirectedFacet). t.a) e), sym (ap (λ (t : DirectedFacet). t.b) e))
same_edge u w x y p a b (inr (inl e)) = absurd (a (sym (ap (λ (t : DirectedFacet). t.c) e)))
same_edge u w x y p a b (inr (inr e)) = absurd (b (sym (ap (λ (t : DirectedFacet). t.c) e)))

pub start_in : (f : DirectedFacet) (e : ℕ) → HasVertex f (edge_start f e)
start_in f zero = inr (inl refl)
start_in f (suc zero) = inr (inr refl)
start_in f (suc (suc e)) = inl refl

pub end_in : (f : DirectedFacet) (e : ℕ) → HasVertex f (edge_end f e)
end_in f zero = inr (inr refl)
end_in f (suc zero) = inl refl
end_in f (suc (suc e)) = inr (inl refl)

-- an edge and its reverse make sides that are the reverse of each other
pub edges_turned : (f g : DirectedFacet) (p e d : ℕ) → e < 3 → d < 3 → edge_start g d ≡ edge_end f e
    → edge_end g d ≡ edge_start f e → IsTurned (facet_of (over f p) e) (facet_of (over g p) d)
edges_turned f g p e d l m s t = grind (arith, turned_rotated, rotated_turned, rotated_back, side_over)

-- ---- distinct vertices

pub record IsApart (f : DirectedFacet) : Type 0 where
  pub a_b : f.a ≢ f.b
  pub b_c : f.b ≢ f.c
  pub c_a : f.c ≢ f.a

pub facet_apart : (t : Tetrahedron) → IsDistinct t → (k : ℕ) → IsApart (facet_of t k)
facet_apart t d zero = record {
  a_b = λ h. let e = d 1 3 (omega arith) (omega arith) h in omega arith;
  b_c = λ h. let e = d 3 2 (omega arith) (omega arith) h in omega arith;
  c_a = λ h. let e = d 2 1 (omega arith) (omega arith) h in omega arith;
}
facet_apart t d (suc zero) = record {
  a_b = λ h. let e = d 0 2 (omega arith) (omega arith) h in omega arith;
  b_c = λ h. let e = d 2 3 (omega arith) (omega arith) h in omega arith;
  c_a = λ h. let e = d 3 0 (omega arith) (omega arith) h in omega arith;
}
facet_apart t d (suc (suc zero)) = record {
  a_b = λ h. let e = d 0 3 (omega arith) (omega arith) h in omega arith;
  b_c = λ h. let e = d 3 1 (omega arith) (omega arith) h in omega arith;
  c_a = λ h. let e = d 1 0 (omega arith) (omega arith) h in omega arith;
}
facet_apart t d (suc (suc (suc k))) = record {
  a_b = λ h. let e = d 0 1 (omega arith) (omega arith) h in omega arith;
  b_c = λ h. let e = d 1 2 (omega arith) (omega arith) h in omega arith;
  c_a = λ h. let e = d 2 0 (omega arith) (omega arith) h in omega arith;
}

pub apart_rotated : (f g : DirectedFacet) → IsRotated f g → IsApart f → IsApart g
apart_rotated f g (inl e) h = subst (λ (t : DirectedFacet). IsApart t) (sym e) h
apart_rotated f g (inr (inl e)) h = grind arith
apart_rotated f g (inr (inr e)) h = grind arith

pub over_distinct : (f : DirectedFacet) (p : ℕ) → IsApart f → (HasVertex f p → ⊥) → IsDistinct (over f p)
over_distinct f p h out zero zero l m e = refl
over_distinct f p h out zero (suc zero) l m e = absurd (h.a_b e)
over_distinct f p h out zero (suc (suc zero)) l m e = absurd (h.c_a (sym e))
over_distinct f p h out zero (suc (suc (suc zero))) l m e = absurd (out (inl (sym e)))
over_distinct f p h out (suc zero) zero l m e = absurd (h.a_b (sym e))
over_distinct f p h out (suc zero) (suc zero) l m e = refl
over_distinct f p h out (suc zero) (suc (suc zero)) l m e = absurd (h.b_c e)
over_distinct f p h out (suc zero) (suc (suc (suc zero))) l m e = absurd (out (inr (inl (sym e))))
over_distinct f p h out (suc (suc zero)) zero l m e = absurd (h.c_a e)
over_distinct f p h out (suc (suc zero)) (suc zero) l m e = absurd (h.b_c (sym e))
over_distinct f p h out (suc (suc zero)) (suc (suc zero)) l m e = refl
over_distinct f p h out (suc (suc zero)) (suc (suc (suc zero))) l m e = absurd (out (inr (inr (sym e))))
over_distinct f p h out (suc (suc (suc zero))) zero l m e = absurd (out (inl e))
over_distinct f p h out (suc (suc (suc zero))) (suc zero) l m e = absurd (out (inr (inl e)))
over_distinct f p h out (suc (suc (suc zero))) (suc (suc zero)) l m e = absurd (out (inr (inr e)))
over_distinct f p h out (suc (suc (suc zero))) (suc (suc (suc zero))) l m e = refl
over_distinct f p h out (suc (suc (suc (suc j)))) k l m e = absurd (omega arith)
over_distinct f p h out j (suc (suc (suc (suc k)))) l m e = absurd (omega arith)

-- the first three vertices of the cell over f are f's
pub over_in : (f : DirectedFacet) (p k : ℕ) → k < 3 → HasVertex f (vertex_of (over f p) k)
over_in f p zero l = inl refl
over_in f p (suc zero) l = inr (inl refl)
over_in f p (suc (suc zero)) l = inr (inr refl)
over_in f p (suc (suc (suc k))) l = absurd (omega arith)

pub three_or_below : (k : ℕ) → k < 4 → (k < 3) ⊎ (k ≡ 3)
three_or_below zero l = inl (omega arith)
three_or_below (suc zero) l = inl (omega arith)
three_or_below (suc (suc zero)) l = inl (omega arith)
three_or_below (suc (suc (suc zero))) l = inr refl
three_or_below (suc (suc (suc (suc k)))) l = absurd (omega arith)

-- ---- the edges of a facet

pub start_apart : (f : DirectedFacet) → IsApart f → (e d : ℕ) → e < 3 → d < 3 → edge_start f e ≡ edge_start f d → e ≡ d
start_apart f a zero zero l m h = refl
start_apart f a zero (suc zero) l m h = absurd (a.b_c h)
start_apart f a zero (suc (suc zero)) l m h = absurd (a.a_b (sym h))
start_apart f a (suc zero) zero l m h = absurd (a.b_c (sym h))
start_apart f a (suc zero) (suc zero) l m h = refl
start_apart f a (suc zero) (suc (suc zero)) l m h = absurd (a.c_a h)
start_apart f a (suc (suc zero)) zero l m h = absurd (a.a_b h)
start_apart f a (suc (suc zero)) (suc zero) l m h = absurd (a.c_a (sym h))
start_apart f a (suc (suc zero)) (suc (suc zero)) l m h = refl
start_apart f a (suc (suc (suc e))) d l m h = absurd (omega arith)
start_apart f a e (suc (suc (suc d))) l m h = absurd (omega arith)

pub start_end : (f : DirectedFacet) → IsApart f → (e : ℕ) → edge_start f e ≢ edge_end f e
start_end f a zero h = a.b_c h
start_end f a (suc zero) h = a.c_a h
start_end f a (suc (suc e)) h = a.a_b h
