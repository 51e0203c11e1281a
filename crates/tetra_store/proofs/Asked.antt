-- What a fan and its cells are before they are replaced.
--
-- Each vertex of the fan is one of a cell that is taken out, so it is in, and its number fits. Each facet of the fan is a facet
-- of such a cell, so its three vertices are distinct, and the cell across names that cell back, so it is live and has the facet
-- turned round.
use Rattle.std.proofs.Common.{ℕ, ◌≡◌, ◌<◌, ◌≤◌, ◌^◌, List, length, Some, sym, ◌∙◌, inl, inr, subst, arith}
use Rattle.geo_sign.specs.Tetrahedron.{vertex_of, facet_of}
use Rattle.geo_sign.specs.Vertices.{Has}
use Rattle.tetra_store.specs.declared.fan.Facet.{Facet}
use Rattle.tetra_store.specs.Links.{links_of, IsBack}
use Rattle.tetra_store.specs.Store.{Store, IsStore, vertices_of}
use Rattle.geo_sign.specs.Edges.{over, edge_start, edge_end, HasVertex}
use Rattle.geo_sign.proofs.Rotations.{rotated_back, rotated_turned}
use Rattle.geo_sign.proofs.Facets.{in_rotated, in_of}
use Rattle.tetra_store.specs.Fan.{fan_facet, fan_outer, CanReplace}
use Rattle.tetra_store.specs.Steps.{CanGrow}
use Rattle.tetra_store.proofs.Facets.{IsApart, apart_rotated, facet_apart, start_apart, start_end, start_in}
use Rattle.tetra_store.proofs.Facets.{end_in, over_in, three_or_below}
use Rattle.tetra_store.proofs.Backs.{has_of, distinct_at}
use Rattle.tetra_store.proofs.Observed.{slot_in}

module _ (s : Store) (old : List ℕ) (fan : List Facet) (p : ℕ) (store : IsStore s) (can : CanReplace s old fan p) where
  pub fan_vertex : (i u : ℕ) → i < length fan → HasVertex (fan_facet fan i) u → Has (vertices_of s) u
  fan_vertex i u l h =
      let m = can.rim.rim i l in
      has_of store.linked m.cell u (can.live m.cell m.listed)
      (in_of ((links_of s.slots).at m.cell) m.side u
      (in_rotated (fan_facet fan i) (facet_of ((links_of s.slots).at m.cell) m.side) u
      (rotated_back (facet_of ((links_of s.slots).at m.cell) m.side) (fan_facet fan i) m.rotated) h))

  outer_back : (i y : ℕ) (l : i < length fan) → fan_outer fan i ≡ Some y
      → IsBack (links_of s.slots) (can.rim.rim i l).cell (can.rim.rim i l).side y
  outer_back i y l e =
      let m = can.rim.rim i l in
      store.linked.back m.cell m.side y (can.live m.cell m.listed) m.in_range (m.neighbor ∙ e)

  rim_apart : (i : ℕ) → i < length fan → IsApart (fan_facet fan i)
  rim_apart i l =
      let m = can.rim.rim i l in
      apart_rotated (facet_of ((links_of s.slots).at m.cell) m.side) (fan_facet fan i) m.rotated
      (facet_apart ((links_of s.slots).at m.cell) (distinct_at store.linked m.cell (can.live m.cell m.listed)) m.side)

  pub can_grow : (capacity : ℕ) → length s.slots ≤ capacity → capacity < 2 ^ 32 → CanGrow (links_of s.slots) fan
  can_grow capacity slots few = record {
    small = λ i y l e. let b = outer_back i y l e in let m = slot_in s.slots y b.live in omega arith;
    facing = record {
      live = λ i y l e. (outer_back i y l e).live;
      facing = λ i y l e.
          let m = can.rim.rim i l in
          let b = outer_back i y l e in
          record {
            side = b.side;
            side_in = b.in_range;
            turned =
                rotated_turned (fan_facet fan i) (facet_of ((links_of s.slots).at m.cell) m.side)
                (facet_of ((links_of s.slots).at y) b.side)
                (rotated_back (facet_of ((links_of s.slots).at m.cell) m.side) (fan_facet fan i) m.rotated) b.turned;
          };
    };
    once = can.rim.once;
    edges = can.edges;
    fits = λ i e l.
        let f = store.vertices.few in
        let h = (fan_vertex i (edge_start (fan_facet fan i) e) l (start_in (fan_facet fan i) e)).0 in
        let k = (fan_vertex i (edge_end (fan_facet fan i) e) l (end_in (fan_facet fan i) e)).0 in
        (omega arith, omega arith);
    apart = λ i e d l m n h. start_apart (fan_facet fan i) (rim_apart i l) e d m n h;
    ends = λ i e l. start_end (fan_facet fan i) (rim_apart i l) e;
  }

  pub over_below : (i k : ℕ) → i < length fan → k < 4 → vertex_of (over (fan_facet fan i) p) k < length s.kept
  over_below i k l m = elim (three_or_below k m) [
    | inl t ↦
        let h = (fan_vertex i (vertex_of (over (fan_facet fan i) p) k) l (over_in (fan_facet fan i) p k t)).0 in
        let e = store.keeps in
        omega arith
    | inr t ↦
        let h = can.below in
        let e = store.keeps in
        subst (λ (z : ℕ). vertex_of (over (fan_facet fan i) p) z < length s.kept) (sym t) (omega arith)
  ]
