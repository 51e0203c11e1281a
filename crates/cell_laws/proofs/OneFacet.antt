-- A cell's four facets are different, and two cells with a directed facet in common are one.
-- Depends on: LinkedCells.
use Rattle.std.proofs.Common.{ℕ, zero, suc, ◌<◌, ◌≡◌, refl, sym, subst, arith, pos, ◌<ℤ◌}
use Rattle.geo_sign.specs.Tetrahedron.{Tetrahedron, tetrahedron, facet_of, vertex_of, IsRotated}
use Rattle.geo_sign.specs.Vertices.{Vertices}
use Rattle.geo_sign.specs.Boxes.{IsBoxed}
use Rattle.cell_laws.specs.CellLaws.{FacetLaw}
use Rattle.cell_laws.specs.Links.{Side}
use Rattle.geo_sign.specs.Writings.{IsRewritten}
use Rattle.geo_sign.proofs.CellRows.{distinct}
use Rattle.geo_sign.proofs.Facets.{distinct_sides}
use Rattle.geo_sign.proofs.Rewritings.{IsCellOf, orientation_at, rewritten_after, rewritten_back, same_cell}
use Rattle.geo_sign.proofs.Rotations.{rotated_back}
use Rattle.cell_laws.proofs.Heights.{tied_generic}
use Rattle.cell_laws.proofs.LinkedCells.{facet_of_same, facet_same, from_facet}
use Rattle.cell_laws.proofs.Wrap.{one_over}

one_vertex :
    (v : Vertices) (t : Tetrahedron) (j k : ℕ) → j < 4 → k < 4 → pos 0 <ℤ orientation_at v t → vertex_of t j ≡ vertex_of t k →
    j ≡ k
one_vertex v t zero zero a b o e = refl
one_vertex v t zero (suc zero) a b o e = absurd ((distinct v t o).b_a (sym e))
one_vertex v t zero (suc (suc zero)) a b o e = absurd ((distinct v t o).c_a (sym e))
one_vertex v t zero (suc (suc (suc zero))) a b o e = absurd ((distinct v t o).d_a (sym e))
one_vertex v t (suc zero) zero a b o e = absurd ((distinct v t o).b_a e)
one_vertex v t (suc zero) (suc zero) a b o e = refl
one_vertex v t (suc zero) (suc (suc zero)) a b o e = absurd ((distinct v t o).c_b (sym e))
one_vertex v t (suc zero) (suc (suc (suc zero))) a b o e = absurd ((distinct v t o).d_b (sym e))
one_vertex v t (suc (suc zero)) zero a b o e = absurd ((distinct v t o).c_a e)
one_vertex v t (suc (suc zero)) (suc zero) a b o e = absurd ((distinct v t o).c_b e)
one_vertex v t (suc (suc zero)) (suc (suc zero)) a b o e = refl
one_vertex v t (suc (suc zero)) (suc (suc (suc zero))) a b o e = absurd ((distinct v t o).d_c (sym e))
one_vertex v t (suc (suc (suc zero))) zero a b o e = absurd ((distinct v t o).d_a e)
one_vertex v t (suc (suc (suc zero))) (suc zero) a b o e = absurd ((distinct v t o).d_b e)
one_vertex v t (suc (suc (suc zero))) (suc (suc zero)) a b o e = absurd ((distinct v t o).d_c e)
one_vertex v t (suc (suc (suc zero))) (suc (suc (suc zero))) a b o e = refl
one_vertex v t (suc (suc (suc (suc j)))) k a b o e = absurd (omega (arith, a))
one_vertex v t j (suc (suc (suc (suc k)))) a b o e = absurd (omega (arith, b))

pub one_side :
    (v : Vertices) (t : Tetrahedron) (j k : ℕ) → j < 4 → k < 4 → pos 0 <ℤ orientation_at v t →
    IsRotated (facet_of t j) (facet_of t k) → j ≡ k
one_side v t j k hj hk o = distinct_sides t (λ i l a b e. one_vertex v t i l a b o e) j k hj hk

-- two cells with a facet in common are one
one_facet :
    (v : Vertices) → IsBoxed v → (t r : Tetrahedron) → IsCellOf v t → IsCellOf v r → (j k : ℕ) → j < 4 → k < 4 →
    IsRotated (facet_of t j) (facet_of r k) → IsRewritten t r
one_facet v b t r ht hr j k hj hk q =
    let f = facet_of t j in
    let e = vertex_of r k in
    let w : IsRewritten r (tetrahedron f.a f.b f.c e) =
    facet_of_same r (tetrahedron f.a f.b f.c e) (k, hk, rotated_back f (facet_of r k) q, refl) in
    let d : vertex_of t j ≡ e =
    one_over v (tied_generic v b) f.a f.b f.c (vertex_of t j) e (same_cell v t (from_facet t j) (facet_same t j) ht)
    (same_cell v r (tetrahedron f.a f.b f.c e) w hr) in
    rewritten_after t (tetrahedron f.a f.b f.c e) r
    (subst (λ (n : ℕ). IsRewritten t (tetrahedron f.a f.b f.c n)) d (facet_same t j))
    (rewritten_back r (tetrahedron f.a f.b f.c e) w)

pub facet_law : FacetLaw
facet_law v b t r ht hr = record { cell = one_facet v b t r ht hr; side = λ j k hj hk q. one_side v t j k hj hk ht.positive q }

-- a side is its cell and its number
pub same_side : (s t : Side) → s.at ≡ t.at → s.side ≡ t.side → s ≡ t
same_side s t e f = grind arith
