-- Each neighbor of the rebuilt cells names the cell back.
--
-- A neighbor is found where its cell is. A new cell's neighbor across its fan facet is the cell outside, which was made to name
-- it. Its others are new cells over facets with the edge turned round, and as each edge is there once, those name it. An old
-- cell's neighbor that stays names it as before: what was changed of it is across the fan, and no facet is there twice. One
-- that was taken out is across the fan, so the old cell now names the new cell over that facet, which names it.
use Rattle.std.proofs.Common.{ℕ, ◌≡◌, ◌<◌, Bool, List, length, Option, Some, sym, ap, ◌∙◌, inl, inr, subst, arith, slice_index}
use Rattle.std.specs.List.{Contains}
use Rattle.geo_sign.specs.Point.{Point}
use Rattle.geo_sign.specs.Tetrahedron.{Tetrahedron, facet_of, IsRotated, IsTurned}
use Rattle.geo_sign.specs.Vertices.{Vertices, Has}
use Rattle.tetra_store.specs.declared.fan.Facet.{Facet}
use Rattle.geo_sign.specs.Writings.{IsVertexOf}
use Rattle.tetra_store.specs.Links.{Links, IsLive, IsBack, IsLinked}
use Rattle.tetra_store.specs.Store.{vertices_at}
use Rattle.geo_sign.specs.Edges.{over, HasVertex}
use Rattle.geo_sign.proofs.Rotations.{rotated_back, rotated_after, turned_back, turned_rotated, turned_turned}
use Rattle.geo_sign.proofs.Facets.{in_rotated, in_of, IsDistinct, distinct_sides}
use Rattle.tetra_store.specs.Fan.{fan_facet, fan_outer, IsOutside}
use Rattle.tetra_store.proofs.Facets.{IsApart, place_of, edges_turned, facet_apart, apart_rotated, three_or_below}
use Rattle.tetra_store.specs.Steps.{IsRenamed}
use Rattle.tetra_store.proofs.Rebuilt.{IsRebuilding, listed_or_not}

pub distinct_at : {v : Vertices} {a : Links} → IsLinked v a → (x : ℕ) → IsLive a x → IsDistinct (a.at x)
distinct_at linked x live = λ j k l m e. linked.distinct x j k live l m e

pub has_of : {v : Vertices} {a : Links} → IsLinked v a → (x u : ℕ) → IsLive a x → IsVertexOf (a.at x) u → Has v u
has_of {v} {a} linked x u live o = let k = place_of (a.at x) u o in subst (λ (w : ℕ). Has v w) k.2 (linked.has x k.0 live k.1)

module _ {points : List Point} {flags flags' : List Bool} {a b : Links} {old : List ℕ} {fan : List Facet} {p : ℕ} {ids : List ℕ}
    (r : IsRebuilding points flags flags' a b old fan p ids) where
  abbrev at_id : ℕ → ℕ
  at_id i = slice_index ids i

  pub cell_live : (i : ℕ) (l : i < length fan) → IsLive a (r.rim.rim i l).cell
  cell_live i l = r.live (r.rim.rim i l).cell (r.rim.rim i l).listed

  pub fan_apart : (i : ℕ) → i < length fan → IsApart (fan_facet fan i)
  fan_apart i l =
      let m = r.rim.rim i l in
      apart_rotated (facet_of (a.at m.cell) m.side) (fan_facet fan i) m.rotated
      (facet_apart (a.at m.cell) (distinct_at r.linked m.cell (cell_live i l)) m.side)

  pub fan_has : (i u : ℕ) → i < length fan → HasVertex (fan_facet fan i) u → Has (vertices_at points flags) u
  fan_has i u l h =
      let m = r.rim.rim i l in
      has_of r.linked m.cell u (cell_live i l)
      (in_of (a.at m.cell) m.side u
      (in_rotated (fan_facet fan i) (facet_of (a.at m.cell) m.side) u
      (rotated_back (facet_of (a.at m.cell) m.side) (fan_facet fan i) m.rotated) h))

  pub fan_without : (i : ℕ) → i < length fan → HasVertex (fan_facet fan i) p → ⊥
  fan_without i l h = r.new (fan_has i p l h)

  -- a live cell outside has no fan facet
  pub not_fan : (x k i : ℕ) → IsLive a x → (¬ Contains old x) → k < 4 → i < length fan
      → IsRotated (facet_of (a.at x) k) (fan_facet fan i) → ⊥
  not_fan x k i live out l m h =
      let c = r.rim.rim i m in
      let e = r.linked.apart x c.cell k c.side live (cell_live i m) l c.in_range
      (rotated_after (facet_of (a.at x) k) (fan_facet fan i) (facet_of (a.at c.cell) c.side) h
      (rotated_back (facet_of (a.at c.cell) c.side) (fan_facet fan i) c.rotated)) in
      out (subst (λ (t : ℕ). Contains old t) (sym e) c.listed)

  -- the new cell over facet i is across the side that names it
  back_new : (x k i : ℕ) → IsLive a x → (¬ Contains old x) → i < length fan → fan_outer fan i ≡ Some x
      → IsTurned (fan_facet fan i) (facet_of (a.at x) k) → IsBack b x k (at_id i)
  back_new x k i live out l is t =
      let n = r.rebuilt in record {
        live = n.made i l;
        side = 3;
        in_range = omega arith;
        turned = subst (λ (q : Tetrahedron). IsTurned (facet_of q k) (facet_of (b.at (at_id i)) 3)) (sym (n.same x live out))
            (subst (λ (q : Tetrahedron). IsTurned (facet_of (a.at x) k) (facet_of q 3)) (sym (n.made_at i l))
            (turned_back (fan_facet fan i) (facet_of (a.at x) k) t));
        named = n.outer i l ∙ is;
      }

  back_named : (x k y : ℕ) → IsLive a x → (¬ Contains old x) → IsRenamed a b fan ids x k → b.next x k ≡ Some y → IsBack b x k y
  back_named x k y live out h e =
      let named = h.named in
      let same : at_id h.facet ≡ y = cc in
      subst (λ (t : ℕ). IsBack b x k t) same (back_new x k h.facet live out h.facet_in h.outer h.turned)

  -- an outer cell that is named by facet i is live and outside
  outer_out : (i y : ℕ) → i < length fan → fan_outer fan i ≡ Some y → IsLive a y × (¬ Contains old y)
  outer_out i y l e =
      let m = r.rim.rim i l in (
        (r.linked.back m.cell m.side y (cell_live i l) m.in_range (m.neighbor ∙ e)).live,
        subst (λ (o : Option ℕ). IsOutside old o) e m.outside,
      )

  -- between cells that stay
  back_between : (x k y : ℕ) → IsLive a x → (¬ Contains old x) → k < 4 → IsBack a x k y → (¬ Contains old y) → IsBack b x k y
  back_between x k y live out l back apart =
      let n = r.rebuilt in record {
        live = n.stays y back.live apart;
        side = back.side;
        in_range = back.in_range;
        turned = subst (λ (q : Tetrahedron). IsTurned (facet_of q k) (facet_of (b.at y) back.side)) (sym (n.same x live out))
            (subst (λ (q : Tetrahedron). IsTurned (facet_of (a.at x) k) (facet_of q back.side)) (sym (n.same y back.live apart))
            back.turned);
        named = elim (n.kept y back.side back.live apart back.in_range) [
          | inl e ↦ e ∙ back.named
          | inr h ↦ absurd (not_fan x k h.facet live out l h.facet_in
              (turned_turned (facet_of (a.at x) k) (facet_of (a.at y) back.side) (fan_facet fan h.facet) back.turned
              (turned_back (fan_facet fan h.facet) (facet_of (a.at y) back.side) h.turned)))
        ];
      }

  -- where the neighbor was taken out
  back_gone : (x k y : ℕ) → IsLive a x → (¬ Contains old x) → k < 4 → IsBack a x k y → Contains old y → b.next x k ≡ Some y
      → IsBack b x k y
  back_gone x k y live out l back gone e =
      let there : IsOutside old (a.next y back.side) = subst (λ (o : Option ℕ). IsOutside old o) (sym back.named) out in
      let f = r.rim.all y back.side gone back.in_range there in
      let m = r.rim.rim f.0 f.1 in
      let rot =
      rotated_after (facet_of (a.at y) back.side) (fan_facet fan f.0) (facet_of (a.at m.cell) m.side) f.2
      (rotated_back (facet_of (a.at m.cell) m.side) (fan_facet fan f.0) m.rotated) in
      let same : y ≡ m.cell =
      r.linked.apart y m.cell back.side m.side back.live (cell_live f.0 f.1) back.in_range m.in_range rot in
      let rot' : IsRotated (facet_of (a.at y) back.side) (facet_of (a.at y) m.side) =
      subst (λ (c : ℕ). IsRotated (facet_of (a.at y) back.side) (facet_of (a.at c) m.side)) (sym same) rot in
      let side : back.side ≡ m.side =
      distinct_sides (a.at y) (distinct_at r.linked y back.live) back.side m.side back.in_range m.in_range rot' in
      let was : a.next y back.side ≡ fan_outer fan f.0 =
      subst (λ (c : ℕ). a.next c back.side ≡ fan_outer fan f.0) (sym same)
      (subst (λ (s : ℕ). a.next m.cell s ≡ fan_outer fan f.0) (sym side) m.neighbor) in
      let is : fan_outer fan f.0 ≡ Some x = sym was ∙ back.named in
      let h = r.rebuilt.named f.0 x f.1 is in
      let turned : IsTurned (facet_of (a.at x) k) (fan_facet fan f.0) =
      turned_rotated (facet_of (a.at x) k) (facet_of (a.at y) back.side) (fan_facet fan f.0) back.turned f.2 in
      let k_is : h.side ≡ k = distinct_sides (a.at x) (distinct_at r.linked x live) h.side k h.side_in l
      (turned_turned (facet_of (a.at x) h.side) (fan_facet fan f.0) (facet_of (a.at x) k)
      (turned_back (fan_facet fan f.0) (facet_of (a.at x) h.side) h.turned)
      (turned_back (facet_of (a.at x) k) (fan_facet fan f.0) turned)) in
      let named : b.next x k ≡ Some (at_id f.0) = subst (λ (s : ℕ). b.next x s ≡ Some (at_id f.0)) k_is h.named in
      let y_is : at_id f.0 ≡ y = cc in
      subst (λ (t : ℕ). IsBack b x k t) y_is
      (back_new x k f.0 live out f.1 is (turned_back (facet_of (a.at x) k) (fan_facet fan f.0) turned))

  back_old : (x k y : ℕ) → IsLive a x → (¬ Contains old x) → k < 4 → b.next x k ≡ Some y → IsBack b x k y
  back_old x k y live out l e = elim (r.rebuilt.kept x k live out l) [
    | inr h ↦ back_named x k y live out h e
    | inl same ↦
        let back = r.linked.back x k y live l (sym same ∙ e) in
        elim (listed_or_not old y) [
          | inl gone ↦ back_gone x k y live out l back gone e
          | inr apart ↦ back_between x k y live out l back apart
        ]
  ]

  -- across a fan facet
  back_outer : (i y : ℕ) → i < length fan → b.next (at_id i) 3 ≡ Some y → IsBack b (at_id i) 3 y
  back_outer i y l e =
      let n = r.rebuilt in
      let is : fan_outer fan i ≡ Some y = sym (n.outer i l) ∙ e in
      let o = outer_out i y l is in
      let h = n.named i y l is in record {
        live = n.stays y o.0 o.1;
        side = h.side;
        in_range = h.side_in;
        turned = subst (λ (q : Tetrahedron). IsTurned (facet_of q 3) (facet_of (b.at y) h.side)) (sym (n.made_at i l))
            (subst (λ (q : Tetrahedron). IsTurned (fan_facet fan i) (facet_of q h.side)) (sym (n.same y o.0 o.1)) h.turned);
        named = h.named;
      }

  -- across a facet with p
  back_inner : (i e y : ℕ) → i < length fan → e < 3 → b.next (at_id i) e ≡ Some y → IsBack b (at_id i) e y
  back_inner i e y l m is =
      let n = r.rebuilt in
      let h = n.inner i e l m in
      let g = n.inner h.mate h.side h.mate_in h.side_in in
      let same : g.mate ≡ i =
      r.edges.once g.mate g.side i e g.mate_in g.side_in l m (g.start_is ∙ h.end_is) (g.end_is ∙ h.start_is) in
      let named = h.named in
      let y_is : at_id h.mate ≡ y = cc in
      subst (λ (t : ℕ). IsBack b (at_id i) e t) y_is (record {
        live = n.made h.mate h.mate_in;
        side = h.side;
        in_range = let s = h.side_in in omega arith;
        turned =
            subst (λ (q : Tetrahedron). IsTurned (facet_of q e) (facet_of (b.at (at_id h.mate)) h.side)) (sym (n.made_at i l))
            (subst (λ (q : Tetrahedron). IsTurned (facet_of (over (fan_facet fan i) p) e) (facet_of q h.side))
            (sym (n.made_at h.mate h.mate_in))
            (edges_turned (fan_facet fan i) (fan_facet fan h.mate) p e h.side m h.side_in h.start_is h.end_is));
        named = g.named ∙ ap (λ (j : ℕ). Some (at_id j)) same;
      })

  back_at : (i k y : ℕ) → i < length fan → k < 4 → b.next (at_id i) k ≡ Some y → IsBack b (at_id i) k y
  back_at i k y l m e = elim (three_or_below k m) [
    | inl s ↦ back_inner i k y l s e
    | inr s ↦
        subst (λ (t : ℕ). IsBack b (at_id i) t y) (sym s)
        (back_outer i y l (subst (λ (t : ℕ). b.next (at_id i) t ≡ Some y) s e))
  ]

  pub back : (x k y : ℕ) → IsLive b x → k < 4 → b.next x k ≡ Some y → IsBack b x k y
  back x k y live l e = elim (r.rebuilt.only x live) [
    | inl h ↦ back_old x k y h.0 h.1 l e
    | inr h ↦ subst (λ (t : ℕ). IsBack b t k y) h.2 (back_at h.0 k y h.1 l (subst (λ (t : ℕ). b.next t k ≡ Some y) (sym h.2) e))
  ]
