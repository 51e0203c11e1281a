-- What a flood that has crossed all sides has found: the cavity.
--
-- With each cell that was reached, each cell in conflict across a facet was reached. By the law of cavities, the cells in
-- conflict are connected across facets; so all were reached (`all`). A fan facet is one of a cell in conflict across which
-- there is none, so by the law of rims a Delaunay cell with p stands over it (`fan_at`), and each such cell stands over one
-- (`fan_all`). What the store asks before it replaces cells follows: p is in front of each fan facet and each directed edge of
-- the fan is there once with its reverse, by the laws of fans and of edges, and each vertex keeps a cell, by the law of
-- vertices.
use Rattle.std.proofs.Common.{ℕ, ◌≡◌, ◌<◌, ◌≤◌, ◌*◌, Bool, true, false, List, length, Option, Some, None, refl, sym, ◌∙◌, ◌⊎◌}
use Rattle.std.proofs.Common.{inl, inr, ⊎_elim, subst, arith, slice_index, slice_index_or, Contains, ℤ, pos, ◌≤ℤ◌}
use Rattle.std.specs.Prelude.{nat_eq}
use Rattle.std.specs.List.{list_any}
use Rattle.std.proofs.lemmas.Bool.{eqb-true}
use Rattle.std.proofs.lemmas.Cmp.{nat_eq_equiv}
use Rattle.std.proofs.lemmas.Map.Views.{Contains-from_any, list_any-from_Contains}
use Rattle.std.proofs.lemmas.Int.{ints}
use Rattle.geo_sign.specs.Tetrahedron as geo
use Rattle.geo_sign.specs.Tetrahedron.{Tetrahedron, facet, facet_of, IsRotated}
use Rattle.geo_sign.specs.Vertices.{Vertices, Has}
use Rattle.geo_sign.specs.Cells.{IsCell}
use Rattle.tetra_store.specs.declared.fan.Facet.{Facet}
use Rattle.tetra_store.specs.Links.{links_of, IsLive}
use Rattle.tetra_store.specs.Store.{Store, IsStore, vertices_of}
use Rattle.tetra_store.specs.Fan.{HasPairedEdges, IsInFan, IsRim}
use Rattle.tetra_store.specs.Fan.{fan_facet, fan_outer, IsOutside, IsHeld, CanReplace}
use Rattle.tetra_store.specs.Delaunay.{IsDelaunay}
use Rattle.tetra_store.specs.Stored.{live_of}
use Rattle.geo_sign.specs.Writings as laws
use Rattle.geo_sign.specs.Boxes.{IsNew, IsInConflict, IsClearOf}
use Rattle.cell_laws.specs.Fans.{IsOnFan}
use Rattle.cell_laws.specs.Lists.{IsListing}
use Rattle.cell_laws.specs.Links.{IsRimSide, IsFlooded}
use Rattle.cell_laws.specs.LinkLaws.{AreConflicts, IsRimLaw}
use Rattle.cell_laws.specs.InsertionLaws.{IsFanOf}
use Rattle.cell_laws.specs.Edges.{AreEdges}
use Rattle.geo_sign.specs.Edges.{edge_start}
use Rattle.geo_sign.proofs.Rewritings.{rewritten_back, same_power, same_vertex}
use Rattle.cell_laws.proofs.Laws.{fan_law, vertex_law, cavity_law, rim_law, linked_law, edge_law}
use Rattle.cavity.specs.Flood.{HasFanFacet, IsPassed, IsFlooding}
use Rattle.cavity.specs.Cavity.{IsCavity}
use Rattle.cavity.proofs.Stores.{in_names, of_names, boxed, linked, cells, new_vertex}
use Rattle.cavity.proofs.Growing.{contains_at, listed_at}

-- in conflict and clear
pub both : (v : Vertices) (p : ℕ) (t : Tetrahedron) → IsInConflict v p t → IsClearOf v p t → ⊥
both v p t h k = absurd (omega (arith, ints, h, k))

-- ---- edges

pub fan_edges : (fan : List Facet) → AreEdges (length fan) (fan_facet fan) → HasPairedEdges fan
fan_edges fan h =
    record {
      turned = λ i e l m. let z = h.next i e l in
          record { facet = z.0; opposite = z.1; facet_in = z.2; opposite_in = z.3; start_is = z.4; end_is = z.5 };
      once = λ i e j d l m n o a b. h.apart i e j d l n a b;
    }

-- a vertex of a facet is where one of its edges begins
abbrev Begins : geo.DirectedFacet → ℕ → Type 0
Begins g u = (e : ℕ) × (e < 3) × (edge_start g e ≡ u)

begins_a : (g : geo.DirectedFacet) → Begins g g.a
begins_a g = (2, omega arith, refl)

begins_b : (g : geo.DirectedFacet) → Begins g g.b
begins_b g = (0, omega arith, refl)

begins_c : (g : geo.DirectedFacet) → Begins g g.c
begins_c g = (1, omega arith, refl)

abbrev IsCorner : geo.DirectedFacet → ℕ → Type 0
IsCorner f u = (u ≡ f.a) ⊎ ((u ≡ f.b) ⊎ (u ≡ f.c))

own : (g : geo.DirectedFacet) (u : ℕ) → IsCorner g u → Begins g u
own g u (inl e) = subst (λ (z : ℕ). Begins g z) (sym e) (begins_a g)
own g u (inr (inl e)) = subst (λ (z : ℕ). Begins g z) (sym e) (begins_b g)
own g u (inr (inr e)) = subst (λ (z : ℕ). Begins g z) (sym e) (begins_c g)

moved : (g : geo.DirectedFacet) (u : ℕ) → IsCorner (facet g.b g.c g.a) u → IsCorner g u
moved g u (inl e) = inr (inl e)
moved g u (inr (inl e)) = inr (inr e)
moved g u (inr (inr e)) = inl e

begins : (g f : geo.DirectedFacet) (u : ℕ) → IsRotated g f → IsCorner f u → Begins g u
begins g f u (inl e) h = own g u (subst (λ (z : geo.DirectedFacet). IsCorner z u) e h)
begins g f u (inr (inl e)) h = own g u (moved g u (subst (λ (z : geo.DirectedFacet). IsCorner z u) e h))
begins g f u (inr (inr e)) h =
    own g u (moved g u (moved (facet g.b g.c g.a) u (subst (λ (z : geo.DirectedFacet). IsCorner z u) e h)))

-- ---- the cavity

module _ (s : Store) (p from : ℕ) (found : List ℕ) (fan : List Facet) (store_is : IsStore s)
    (delaunay : IsDelaunay (vertices_of s) (links_of s.slots)) (below : p < length s.points)
    (out : slice_index_or s.inserted p false ≡ false)
    (f : IsFlooding (vertices_of s) (links_of s.slots) p from found fan (4 * length found)) where
  abbrev at : ℕ → Tetrahedron
  at = (links_of s.slots).at

  abbrev next : ℕ → ℕ → Option ℕ
  next = (links_of s.slots).next

  new : IsNew (vertices_of s) p
  new = new_vertex s p store_is below out

  from_live : IsLive (links_of s.slots) from
  from_live = f.live from f.start

  fan_of : IsFanOf (vertices_of s) p
  fan_of = fan_law (vertices_of s) (boxed s store_is) p new

  rims : IsRimLaw (vertices_of s) p (live_of s.slots) at next
  rims =
      rim_law (vertices_of s) (boxed s store_is) p (live_of s.slots) at next (linked s store_is) (cells s delaunay) from
      (in_names s.slots from from_live)

  -- a side of a cell that was found
  passed : (x k : ℕ) → Contains found x → k < 4 → IsPassed found fan (facet_of (at x) k) (next x k)
  passed x k h l =
      subst (λ (z : ℕ). IsPassed found fan (facet_of (at z) k) (next z k)) (listed_at found x h)
      (f.passed h.0 k h.1 l (let m : h.0 < length found = h.1 in omega arith))

  -- across it is no cell in conflict but one that was found
  abbrev marked : ℕ → Bool
  marked x = list_any (nat_eq x) found

  listed : (x : ℕ) → marked x ≡ true → Contains found x
  listed x h = Contains-from_any eqb-true x found h

  is_marked : (x : ℕ) → Contains found x → marked x ≡ true
  is_marked x h = list_any-from_Contains nat_eq_equiv x found h

  entered : (x k y : ℕ) → Contains found x → k < 4 → next x k ≡ Some y → IsInConflict (vertices_of s) p (at y)
      → Contains found y
  entered x k y h l e c =
      ⊎_elim (λ (z : (w : ℕ) × (next x k ≡ Some w) × Contains found w).
      let q : y ≡ z.0 = (let a : Some y ≡ Some z.0 = sym e ∙ z.1 in cc) in
      subst (λ (w : ℕ). Contains found w) (sym q) z.2)
      (λ (z : HasFanFacet fan (facet_of (at x) k) (next x k)).
      absurd (both (vertices_of s) p (at y) c ((f.rim z.facet z.facet_in).clear y (z.outer ∙ e)))) (passed x k h l)

  flooded : IsFlooded (vertices_of s) p (live_of s.slots) at next marked
  flooded x k y live m c l e d = is_marked y (entered x k y (listed x m) l e d)

  conflicts : AreConflicts (vertices_of s) p (live_of s.slots) at marked
  conflicts =
      cavity_law (vertices_of s) (boxed s store_is) p new (live_of s.slots) at next (linked s store_is) (cells s delaunay) marked
      flooded (λ x live m. f.conflict x (listed x m)) from
      (in_names s.slots from from_live) (is_marked from f.start)

  all : (x : ℕ) → IsLive (links_of s.slots) x → IsInConflict (vertices_of s) p (at x) → Contains found x
  all x live c = pick (marked x) refl
    where
      pick : (b : Bool) → marked x ≡ b → Contains found x
      pick true e = listed x e
      pick false e = absurd (both (vertices_of s) p (at x) c (conflicts.kept x (in_names s.slots x live) e))

  -- ---- the fan

  law_rim : (x k : ℕ) (o : Option ℕ) → o ≡ next x k → ((y : ℕ) → o ≡ Some y → IsClearOf (vertices_of s) p (at y))
      → IsRimSide (vertices_of s) p at next x k
  law_rim x k None e h = inl (sym e)
  law_rim x k (Some y) e h = inr (y, sym e, h y refl)

  fan_at : (i : ℕ) → i < length fan → IsOnFan (vertices_of s) p (fan_facet fan i).a (fan_facet fan i).b (fan_facet fan i).c
  fan_at i l =
      let r = f.rim i l in
      let x = slice_index found r.cell in
      let h = contains_at found r.cell r.cell_in in
      subst (λ (g : geo.DirectedFacet). IsOnFan (vertices_of s) p g.a g.b g.c) (sym r.facet)
      (rims.fan x r.side (in_names s.slots x (f.live x h)) r.side_in (f.conflict x h)
      (law_rim x r.side (fan_outer fan i) r.outer r.clear))

  -- a facet of a found cell across which there is none or one that is clear of p
  at_rim : (x k : ℕ) → Contains found x → k < 4 → IsRimSide (vertices_of s) p at next x k
      → HasFanFacet fan (facet_of (at x) k) (next x k)
  at_rim x k h l r =
      ⊎_elim
      (λ (z : (y : ℕ) × (next x k ≡ Some y) × Contains found y).
      absurd
      (⊎_elim (λ (q : next x k ≡ None). let a : None ≡ Some z.0 = sym q ∙ z.1 in cc)
      (λ (q : (y : ℕ) × (next x k ≡ Some y) × IsClearOf (vertices_of s) p (at y)).
      let a : Some z.0 ≡ Some q.0 = sym z.1 ∙ q.1 in
      let b : z.0 ≡ q.0 = cc in
      both (vertices_of s) p (at z.0) (f.conflict z.0 z.2) (subst (λ (w : ℕ). IsClearOf (vertices_of s) p (at w)) (sym b) q.2))
      r))
      (λ (z : HasFanFacet fan (facet_of (at x) k) (next x k)). z) (passed x k h l)

  fan_all : (a b c : ℕ) → IsOnFan (vertices_of s) p a b c → (i : ℕ) × (i < length fan) × IsRotated (fan_facet fan i) (facet a b c)
  fan_all a b c h =
      let r = rims.all a b c h in
      let z = at_rim r.at r.side (all r.at (of_names s.slots r.at r.listed) r.conflict) r.in_range r.rim in
      (z.facet, z.facet_in, subst (λ (g : geo.DirectedFacet). IsRotated g (facet a b c)) (sym z.is) r.rotated)

  -- ---- what the store asks

  outside : (o : Option ℕ) → ((y : ℕ) → o ≡ Some y → IsClearOf (vertices_of s) p (at y)) → IsOutside found o
  outside None h = tt
  outside (Some y) h = λ l. both (vertices_of s) p (at y) (f.conflict y l) (h y refl)

  store_rim : (i : ℕ) → i < length fan → IsRim (links_of s.slots) found (fan_facet fan i) (fan_outer fan i)
  store_rim i l =
      let r = f.rim i l in
      record {
        cell = slice_index found r.cell;
        side = r.side;
        listed = contains_at found r.cell r.cell_in;
        in_range = r.side_in;
        rotated = inl r.facet;
        neighbor = sym r.outer;
        outside = outside (fan_outer fan i) r.clear;
      }

  inside : (y : ℕ) (o : Option ℕ) → o ≡ Some y → IsOutside found o → ¬ Contains found y
  inside y None e h = absurd (let a : None ≡ Some y = e in cc)
  inside y (Some z) e h = let q : z ≡ y = (let a : Some z ≡ Some y = e in cc) in subst (λ (w : ℕ). ¬ Contains found w) q h

  store_all : (id k : ℕ) → Contains found id → k < 4 → IsOutside found (next id k)
      → (i : ℕ) × (i < length fan) × IsRotated (facet_of (at id) k) (fan_facet fan i)
  store_all id k h l o =
      ⊎_elim (λ (z : (y : ℕ) × (next id k ≡ Some y) × Contains found y). absurd (inside z.0 (next id k) z.1 o z.2))
      (λ (z : HasFanFacet fan (facet_of (at id) k) (next id k)). (z.facet, z.facet_in, inl z.is)) (passed id k h l)

  some_facet : 0 < length fan
  some_facet =
      let c = delaunay.cells from from_live in
      let z = fan_of.some (at from).a (at from).b (at from).c (at from).d c (f.conflict from f.start) in
      let i = fan_all z.0 z.1 z.2 z.3 in
      let l : i.0 < length fan = i.1 in
      omega arith

  listing : IsListing (vertices_of s) (live_of s.slots) at
  listing =
      linked_law (vertices_of s) (boxed s store_is) (live_of s.slots) at next (linked s store_is) (cells s delaunay) from
      (in_names s.slots from from_live)

  held : (u : ℕ) → Has (vertices_of s) u → IsInFan fan u ⊎ IsHeld (links_of s.slots) found u
  held u h =
      let c = delaunay.cells from from_live in
      ⊎_elim
      (λ (z : (i j k : ℕ) × IsOnFan (vertices_of s) p i j k × ((u ≡ i) ⊎ ((u ≡ j) ⊎ (u ≡ k)))).
      let m = fan_all z.0 z.1 z.2 z.3 in
      let b = begins (fan_facet fan m.0) (facet z.0 z.1 z.2) u m.2 z.4 in
      inl (record { facet = m.0; opposite = b.0; facet_in = m.1; opposite_in = b.1; is = b.2 }))
      (λ (z : (t : Tetrahedron) × IsCell (vertices_of s) t.a t.b t.c t.d × laws.IsVertexOf t u × IsClearOf (vertices_of s) p t).
      let w = listing.full.all z.0.a z.0.b z.0.c z.0.d z.1 in
      let e = same_power (vertices_of s) p (at w.0) z.0 w.2 in
      inr (record {
        cell = w.0;
        live = of_names s.slots w.0 w.1;
        outside = λ l. both (vertices_of s) p (at w.0) (f.conflict w.0 l) (subst (λ (y : ℤ). pos 0 ≤ℤ y) e z.3);
        has = same_vertex u z.0 (at w.0) (rewritten_back (at w.0) z.0 w.2) z.2;
      })) (vertex_law (vertices_of s) (boxed s store_is) p new (at from).a (at from).b (at from).c (at from).d c
      (f.conflict from f.start) u h)

  can : (room capacity : ℕ) → length fan ≤ room
      → CanReplace (record s { spare = room; capacity = capacity }) found fan p
  can room capacity l = record {
    some_cell = let m : f.start.0 < length found = f.start.1 in omega arith;
    live = f.live;
    distinct = f.distinct;
    some_facet = some_facet;
    rim = record { rim = store_rim; all = store_all; once = f.once };
    before = λ i m. fan_of.before (fan_facet fan i).a (fan_facet fan i).b (fan_facet fan i).c (fan_at i m);
    edges =
        fan_edges fan
        (edge_law (vertices_of s) (boxed s store_is) p new (length fan) (fan_facet fan)
        (record { fan = fan_at; all = fan_all; once = f.once }));
    below = below;
    out = out;
    held = held;
    room = l;
  }

  pub is_cavity : IsCavity s p found fan
  is_cavity = record { live = f.live; rim = fan_at; conflict = f.conflict; all = all; can_replace = can }
