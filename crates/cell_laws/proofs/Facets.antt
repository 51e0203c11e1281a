-- What holds of a cell's four facets, and is kept by moving one round, holds of each way to write the cell.
-- Stands on: Ways.
use Rattle.geo_sign.specs.Tetrahedron.{Tetrahedron, tetrahedron}
use Rattle.geo_sign.specs.Writings.{IsRewritten, spin, swap}
use Rattle.geo_sign.proofs.Rewritings.{carry_rewritten}

-- of the four facets, each with the vertex opposite to it
pub record OnFacets (P : Tetrahedron → Type 0) (t : Tetrahedron) : Type 0 where
  pub opposite_a : P (tetrahedron t.b t.d t.c t.a)
  pub opposite_b : P (tetrahedron t.a t.c t.d t.b)
  pub opposite_c : P (tetrahedron t.a t.d t.b t.c)
  pub opposite_d : P (tetrahedron t.a t.b t.c t.d)

spin_facets :
    (P : Tetrahedron → Type 0) → ((t : Tetrahedron) → P t → P (spin t)) → (t : Tetrahedron) → OnFacets P t → OnFacets P (spin t)
spin_facets P f t h =
    record {
      opposite_a = f (tetrahedron t.a t.c t.d t.b) h.opposite_b;
      opposite_b = f (tetrahedron t.d t.b t.a t.c) (f (tetrahedron t.a t.d t.b t.c) h.opposite_c);
      opposite_c = h.opposite_a;
      opposite_d = f (tetrahedron t.a t.b t.c t.d) h.opposite_d;
    }

swap_facets :
    (P : Tetrahedron → Type 0) → ((t : Tetrahedron) → P t → P (spin t)) → (t : Tetrahedron) → OnFacets P t → OnFacets P (swap t)
swap_facets P f t h =
    record {
      opposite_a = h.opposite_b;
      opposite_b = h.opposite_a;
      opposite_c = f (tetrahedron t.a t.b t.c t.d) h.opposite_d;
      opposite_d = f (tetrahedron t.d t.b t.a t.c) (f (tetrahedron t.a t.d t.b t.c) h.opposite_c);
    }

pub by_facets :
    (P : Tetrahedron → Type 0) → ((t : Tetrahedron) → P t → P (spin t)) → (q r : Tetrahedron) → IsRewritten q r → OnFacets P q →
    P r
by_facets P f q r e h =
    let k : OnFacets P r = carry_rewritten (OnFacets P) (spin_facets P f) (swap_facets P f) q r e h in
    k.opposite_d
