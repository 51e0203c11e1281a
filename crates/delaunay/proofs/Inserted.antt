-- What a replacement of the cavity leaves: Delaunay cells with one vertex more.
--
-- The vertices afterwards are those of before with p (`vertices`), by one equation between the two tests of which are in. A
-- live cell is an old one that is not of the cavity, so p is not in conflict with it, and by the law of cells that stay it is
-- still one; or it is over a facet of the fan, and by the law of fans it is one. Links of the new cells are no matter here: the
-- store keeps them.
use Rattle.std.proofs.Common.{ℕ, ◌≡◌, ◌≢◌, ◌<◌, ◌≤◌, Bool, true, false, List, length, refl, sym, ap, ◌∙◌, inr}
use Rattle.std.proofs.Common.{⊎_elim, subst, arith, get_or, set, slice_index_or, pos, true≢false, Contains}
use mathlib.Core.Path.{fun_ext}
use Rattle.std.proofs.lemmas.Int.{by_lt_z}
use Rattle.geo_sign.specs.Point.{Point, origin, IsWithin}
use Rattle.geo_sign.specs.declared.point.TheConstants.{DATA_LIMIT}
use Rattle.geo_sign.specs.Tetrahedron.{Tetrahedron, vertex_of}
use Rattle.geo_sign.specs.Vertices.{Vertices, power_of}
use Rattle.geo_sign.specs.Cells.{IsCell}
use Rattle.tetra_store.specs.declared.fan.Facet.{Facet}
use Rattle.geo_sign.specs.Writings.{IsVertexOf}
use Rattle.tetra_store.specs.Links.{Links, links_of, IsLive}
use Rattle.tetra_store.specs.Store.{Store, IsStore, vertices_at, vertices_of}
use Rattle.tetra_store.specs.Delaunay.{IsDelaunay}
use Rattle.tetra_store.specs.Fan.{fan_facet, CanReplace, IsOver, IsReplaced}
use Rattle.geo_sign.specs.Boxes.{with_vertex, IsClearOf}
use Rattle.cell_laws.proofs.Laws.{fan_law, stay_law}
use Rattle.cell_laws.proofs.Stored.{flag_set}
use Rattle.cavity.specs.Cavity.{IsCavity}
use Rattle.cavity.proofs.Stores.{boxed, new_vertex}
use Rattle.delaunay.proofs.Whole.{AreLiveCells}

-- ---- room is made

renewed : (s t : Store) → t.points ≡ s.points → t.inserted ≡ s.inserted → t.slots ≡ s.slots → t.kept ≡ s.kept → record s {
  spare = t.spare;
  capacity = t.capacity;
} ≡ t
renewed s t e f g h = λ i. record {
  points = sym e i;
  inserted = sym f i;
  slots = sym g i;
  kept = sym h i;
  spare = t.spare;
  capacity = t.capacity;
}

pub can_replace : (s t : Store) (p : ℕ) (cells : List ℕ) (fan : List Facet) → t.points ≡ s.points → t.inserted ≡ s.inserted
    → t.slots ≡ s.slots → t.kept ≡ s.kept → length fan ≤ t.spare → IsCavity s p cells fan → CanReplace t cells fan p
can_replace s t p cells fan e f g h l c =
    subst (λ (u : Store). CanReplace u cells fan p) (renewed s t e f g h) (c.can_replace t.spare t.capacity l)

pub replaced : (s t u : Store) (p : ℕ) (cells : List ℕ) (fan : List Facet) → t.points ≡ s.points → t.inserted ≡ s.inserted
    → t.slots ≡ s.slots → t.kept ≡ s.kept → IsReplaced t u cells fan p
    → IsReplaced (record s { spare = t.spare; capacity = t.capacity }) u cells fan p
replaced s t u p cells fan e f g h r = subst (λ (z : Store). IsReplaced z u cells fan p) (sym (renewed s t e f g h)) r

-- the point of a vertex that is not inserted is a data point
pub is_data : (s : Store) (p : ℕ) (q : Point) → q ≡ get_or s.points p origin → IsStore s → p < length s.points
    → slice_index_or s.inserted p false ≡ false → IsWithin DATA_LIMIT q
is_data s p q e store below out =
    subst (λ (z : Point). IsWithin DATA_LIMIT z) (sym e)
    (store.vertices.boxed.data_at p (new_vertex s p store below out).above below)

-- ---- one vertex more

one_more : (points : List Point) (flags : List Bool) (p : ℕ) → p < length flags
    → vertices_at points (set flags p true) ≡ with_vertex (vertices_at points flags) p
one_more points flags p h =
    let v = vertices_at points flags in
    ap (λ (is : ℕ → Bool). let w : Vertices = record { at = v.at; high = v.high; count = v.count; is_in = is } in w)
    (fun_ext (flag_set flags p h))

-- ---- each cell is one

module _ (s t : Store) (room capacity p : ℕ) (cells : List ℕ) (fan : List Facet) (store_is : IsStore s)
    (delaunay : IsDelaunay (vertices_of s) (links_of s.slots)) (below : p < length s.points)
    (out : slice_index_or s.inserted p false ≡ false) (c : IsCavity s p cells fan)
    (r : IsReplaced (record s { spare = room; capacity = capacity }) t cells fan p) where
  abbrev at : ℕ → Tetrahedron
  at = (links_of s.slots).at

  abbrev at' : ℕ → Tetrahedron
  at' = (links_of t.slots).at

  other : (id k : ℕ) → IsLive (links_of s.slots) id → k < 4 → vertex_of (at id) k ≢ p
  other id k live l e =
      true≢false (sym (store_is.linked.has id k live l).1 ∙ (ap (λ (u : ℕ). slice_index_or s.inserted u false) e ∙ out))

  clear : (id : ℕ) → IsLive (links_of s.slots) id → ¬ Contains cells id → IsClearOf (vertices_of s) p (at id)
  clear id live h =
      by_lt_z (power_of (vertices_of s) (at id).a (at id).b (at id).c (at id).d p) (pos 0)
      (λ l. absurd (h (c.all id live l))) (λ l. l)

  stays : (id : ℕ) → IsLive (links_of s.slots) id → ¬ Contains cells id
      → IsCell (with_vertex (vertices_of s) p) (at id).a (at id).b (at id).c (at id).d
  stays id live h =
      (stay_law (vertices_of s) p (at id).a (at id).b (at id).c (at id).d below (other id 0 live (omega arith))
      (other id 1 live (omega arith)) (other id 2 live (omega arith)) (other id 3 live (omega arith))).1
      (delaunay.cells id live, clear id live h)

  comes : (i : ℕ) → i < length fan
      → IsCell (with_vertex (vertices_of s) p) (fan_facet fan i).a (fan_facet fan i).b (fan_facet fan i).c p
  comes i l =
      ((fan_law (vertices_of s) (boxed s store_is) p (new_vertex s p store_is below out)).cells (fan_facet fan i).a
      (fan_facet fan i).b (fan_facet fan i).c).0 (c.rim i l)

  abbrev Cell : Vertices → Tetrahedron → Type 0
  Cell v q = IsCell v q.a q.b q.c q.d

  cell_with : (id : ℕ) → IsLive (links_of t.slots) id → Cell (with_vertex (vertices_of s) p) (at' id)
  cell_with id live =
      ⊎_elim (λ (z : IsLive (links_of s.slots) id × (¬ Contains cells id)).
      subst (λ (q : Tetrahedron). Cell (with_vertex (vertices_of s) p) q) (sym (r.stays id z.0 z.1).1) (stays id z.0 z.1))
      (λ (z : IsOver (links_of t.slots) fan p id).
      subst (λ (q : Tetrahedron). Cell (with_vertex (vertices_of s) p) q) (sym z.is) (comes z.facet z.facet_in))
      (r.only id live)

  vertices : vertices_of t ≡ with_vertex (vertices_of s) p
  vertices =
      let l : p < length s.inserted = (let e = store_is.flags in omega arith) in
      ap (λ (z : List Point). vertices_at z t.inserted) r.points
      ∙ (ap (λ (z : List Bool). vertices_at s.points z) r.inserted ∙ one_more s.points s.inserted p l)

  pub live_cells : AreLiveCells t
  live_cells id live = subst (λ (v : Vertices). Cell v (at' id)) (sym vertices) (cell_with id live)

-- the cell over a facet has p
pub over_has : (links : Links) (fan : List Facet) (p id : ℕ) → IsOver links fan p id → IsVertexOf (links.at id) p
over_has links fan p id h = subst (λ (q : Tetrahedron). IsVertexOf q p) (sym h.is) (inr (inr (inr refl)))
