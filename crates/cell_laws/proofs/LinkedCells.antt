-- Linked cells that are cells of the vertices are all its cells, a flood over the links finds all cells in conflict, and the
-- fan is what lies at the rim. All three go from sides to writings: the ways to write a cell are its four facets with the
-- vertices opposite, each in three rotations, so what is said of each side of each name is said of each way to write its cell.
-- Across a facet without a neighbor there is no cell, since it is on a wall; across one with a neighbor there is one cell at
-- most. So the list is closed under steps, and Closed says that it has all cells.
-- Stands on: Facets, Closed, Rim and Goal.
use Rattle.std.proofs.Common.{ℕ, zero, suc, ◌≡◌, ◌<◌, refl, ap, sym, ◌∙◌, ◌⊎◌, inl, inr, arith, Bool, true, false, Option, Some}
use Rattle.std.proofs.Common.{None, List, [], ◌∷◌, pos, ◌≤ℤ◌, ◌<ℤ◌, subst}
use Rattle.geo_sign.specs.Cells.{IsCell}
use Rattle.geo_sign.specs.Tetrahedron.{DirectedFacet, facet, facet_of, IsRotated, IsTurned, Tetrahedron, tetrahedron, vertex_of}
use Rattle.geo_sign.specs.Vertices.{power_of, Vertices}
use Rattle.geo_sign.specs.Boxes.{IsBoxed, IsInConflict}
use Rattle.cell_laws.specs.Fans.{IsOnFan}
use Rattle.cell_laws.specs.Links.{IsBackAt, IsFanAt, IsFlooded, AreLinked, IsRimSide}
use Rattle.cell_laws.specs.Lists.{IsClosedInConflict, IsFull, IsIn, IsListing}
use Rattle.geo_sign.specs.Writings.{IsRewritten, spin}
use Rattle.geo_sign.proofs.Exchanges.{spin_orientation}
use Rattle.geo_sign.proofs.Rewritings.{IsCellOf, rewritten_after, same_cell, same_power}
use Rattle.geo_sign.proofs.Rotations.{rotated_after, rotated_back}
use Rattle.cell_laws.proofs.Closed.{closed_full, linked_joined, outer_none}
use Rattle.cell_laws.proofs.Facets.{by_facets}
use Rattle.cell_laws.proofs.Goal.{wall_outer}
use Rattle.cell_laws.proofs.Regions.{IsGeneric, IsOuter}
use Rattle.cell_laws.proofs.Rim.{fan_spin}
use Rattle.cell_laws.proofs.Wrap.{one_over}

-- a tetrahedron written from its facet k on
abbrev pub from_facet : Tetrahedron → ℕ → Tetrahedron
from_facet q k = tetrahedron (facet_of q k).a (facet_of q k).b (facet_of q k).c (vertex_of q k)

pub facet_same : (q : Tetrahedron) (k : ℕ) → IsRewritten q (from_facet q k)
facet_same q zero = (true ∷ false ∷ true ∷ [], refl)
facet_same q (suc zero) = (true ∷ false ∷ true ∷ false ∷ [], refl)
facet_same q (suc (suc zero)) = (true ∷ false ∷ [], refl)
facet_same q (suc (suc (suc k))) = ([], refl)

-- a facet with a vertex behind it
abbrev under : DirectedFacet → ℕ → Tetrahedron
under f e = tetrahedron f.a f.b f.c e

-- the cell that has f in the other direction, written so
turned_same : (f g : DirectedFacet) (e : ℕ) → IsTurned f g → IsRewritten (under g e) (tetrahedron f.a f.c f.b e)
turned_same f g e (inl h) = ([], ap (λ (x : DirectedFacet). under x e) h)
turned_same f g e (inr (inl h)) = (true ∷ true ∷ [], ap (λ (x : DirectedFacet). tetrahedron x.c x.a x.b e) h)
turned_same f g e (inr (inr h)) = (true ∷ [], ap (λ (x : DirectedFacet). tetrahedron x.b x.c x.a e) h)

pub back_same :
    {X : Type 0} (live : List X) (v : X → Tetrahedron) (f : DirectedFacet) (y : X) → IsBackAt live v f y →
    (e : ℕ) × IsRewritten (v y) (tetrahedron f.a f.c f.b e)
back_same live v f y h =
    let e = vertex_of (v y) h.side in (
      e,
      rewritten_after (v y) (from_facet (v y) h.side) (tetrahedron f.a f.c f.b e) (facet_same (v y) h.side)
          (turned_same f (facet_of (v y) h.side) e h.turned),
    )

-- what holds at each side holds of each way to write the cell
pub by_sides :
    (P : Tetrahedron → Type 0) → ((t : Tetrahedron) → P t → P (spin t)) → (q r : Tetrahedron) → IsRewritten q r →
    ((k : ℕ) → k < 4 → P (from_facet q k)) → P r
by_sides P f q r e h =
    by_facets P f q r e
    (record {
      opposite_a = h 0 (omega arith);
      opposite_b = h 1 (omega arith);
      opposite_c = h 2 (omega arith);
      opposite_d = h 3 (omega arith);
    })

-- ---- the ways to write a cell are its facets with the vertices opposite, each in three rotations
-- r is one of q's facets with the vertex opposite to it
abbrev pub IsFacetOf : Tetrahedron → Tetrahedron → Type 0
IsFacetOf q r = (k : ℕ) × (k < 4) × IsRotated (facet_of q k) (facet r.a r.b r.c) × (r.d ≡ vertex_of q k)

pub same_facet : (q r : Tetrahedron) → IsRewritten q r → IsFacetOf q r
same_facet q r w =
    by_sides (IsFacetOf q)
    (λ t h. (h.0, h.1, rotated_after (facet_of q h.0) (facet t.a t.b t.c) (facet t.b t.c t.a) h.2 (inr (inl refl)), h.3)) q r w
    (λ k h. (k, h, inl refl, refl))

rotated_same : (f g : DirectedFacet) (e : ℕ) → IsRotated f g → IsRewritten (under f e) (under g e)
rotated_same f g e (inl h) = ([], ap (λ (x : DirectedFacet). under x e) (sym h))
rotated_same f g e (inr (inl h)) = (true ∷ [], ap (λ (x : DirectedFacet). under x e) (sym h))
rotated_same f g e (inr (inr h)) = (true ∷ true ∷ [], ap (λ (x : DirectedFacet). under x e) (sym h))

pub facet_of_same : (q r : Tetrahedron) → IsFacetOf q r → IsRewritten q r
facet_of_same q r h =
    let k = h.0 in
    let w : IsRewritten q (under (facet r.a r.b r.c) (vertex_of q k)) =
    rewritten_after q (from_facet q k) (under (facet r.a r.b r.c) (vertex_of q k)) (facet_same q k)
    (rotated_same (facet_of q k) (facet r.a r.b r.c) (vertex_of q k) h.2) in
    subst (λ e. IsRewritten q (tetrahedron r.a r.b r.c e)) (sym h.3) w

-- cells that are written with one facet first are one
pub apart_same :
    {X : Type 0} (v : Vertices) (live : List X) (cell : X → Tetrahedron) (next : X → ℕ → Option X) → AreLinked v live cell next
    → (x y : X) (a b c d e : ℕ) → IsIn live x → IsIn live y → IsRewritten (cell x) (tetrahedron a b c d)
    → IsRewritten (cell y) (tetrahedron a b c e) → x ≡ y
apart_same v live cell next l x y a b c d e i j w w' =
    let f = same_facet (cell x) (tetrahedron a b c d) w in
    let g = same_facet (cell y) (tetrahedron a b c e) w' in
    l.apart x y f.0 g.0 i j f.1 g.1
    (rotated_after (facet_of (cell x) f.0) (facet a b c) (facet_of (cell y) g.0) f.2
    (rotated_back (facet_of (cell y) g.0) (facet a b c) g.2))

abbrev Ahead : {X : Type 0} → Vertices → List X → (X → Tetrahedron) → Tetrahedron → Type 0
Ahead {X} v live cell t =
    IsOuter v t.a t.b t.c ⊎ ((y : X) × (e : ℕ) × IsIn live y × IsRewritten (cell y) (tetrahedron t.a t.c t.b e))

outer_spin : (v : Vertices) (a b c : ℕ) → IsOuter v a b c → IsOuter v b c a
outer_spin v a b c o u h = rw (spin_orientation (v.at a) (v.at b) (v.at c) (v.at u)) (o u h)

two_spins : (q : Tetrahedron) (a b c e : ℕ) → IsRewritten q (tetrahedron a c b e) → IsRewritten q (tetrahedron b a c e)
two_spins q a b c e w = (true ∷ true ∷ w.0, ap (λ r. spin (spin r)) w.1)

ahead_spin :
    {X : Type 0} (v : Vertices) (live : List X) (cell : X → Tetrahedron) (t : Tetrahedron) → Ahead v live cell t →
    Ahead v live cell (spin t)
ahead_spin v live cell t (inl o) = inl (outer_spin v t.a t.b t.c o)
ahead_spin v live cell t (inr z) = inr (z.0, z.1, z.2, two_spins (cell z.0) t.a t.b t.c z.1 z.3)

-- linked cells that are cells are all cells
pub linked_listing :
    {X : Type 0} (v : Vertices) → IsBoxed v → IsGeneric v → (live : List X) (cell : X → Tetrahedron) (next : X → ℕ → Option X) →
    AreLinked v live cell next → ((x : X) → IsIn live x → IsCellOf v (cell x)) → (x : X) → IsIn live x → IsListing v live cell
linked_listing {X} v box g live cell next l cells x i =
    record {
      full =
          closed_full v g live cell
          (linked_joined v g live cell cells
          (λ y a b c d j w. by_sides (Ahead v live cell) (ahead_spin v live cell) (cell y) (tetrahedron a b c d) w
          (λ k h. side y k j h (next y k) refl))) x i;
      once =
          λ y z j k w.
          apart_same v live cell next l y z (cell z).a (cell z).b (cell z).c (cell z).d (cell z).d j k w ([], refl);
    }
  where
    side : (y : X) (k : ℕ) → IsIn live y → k < 4 → (o : Option X) → next y k ≡ o → Ahead v live cell (from_facet (cell y) k)
    side y k j h None e =
        let f = from_facet (cell y) k in
        inl (wall_outer v box f.a f.b f.c f.d (same_cell v (cell y) f (facet_same (cell y) k) (cells y j)) (l.walls y k j h e))
    side y k j h (Some z) e =
        let b : IsBackAt live cell (facet_of (cell y) k) z = l.back y k z j h e in
        let w = back_same live cell (facet_of (cell y) k) z b in
        inr (z, w.0, b.listed, w.1)

-- a flood over the links is closed
pub flooded_closed :
    {X : Type 0} (v : Vertices) → IsBoxed v → (p : ℕ) (live : List X) (cell : X → Tetrahedron) (next : X → ℕ → Option X) →
    AreLinked v live cell next → ((x : X) → IsIn live x → IsCellOf v (cell x)) → (marked : X → Bool) →
    IsFlooded v p live cell next marked → IsClosedInConflict v p live cell marked
flooded_closed {X} v box p live cell next l cells marked flooded x y a b c d e i j m cx cy w w' =
    by_sides Reached spun (cell x) (tetrahedron a b c d) w (λ k h. side k h (next x k) refl) e w'
  where
    Reached : Tetrahedron → Type 0
    Reached t = (e : ℕ) → IsRewritten (cell y) (tetrahedron t.a t.c t.b e) → marked y ≡ true

    spun : (t : Tetrahedron) → Reached t → Reached (spin t)
    spun t r e u = r e (true ∷ u.0, ap spin u.1)

    side : (k : ℕ) → k < 4 → (o : Option X) → next x k ≡ o → Reached (from_facet (cell x) k)
    side k h None e f u =
        let q = from_facet (cell x) k in
        absurd (outer_none v q.a q.b q.c f
        (wall_outer v box q.a q.b q.c q.d (same_cell v (cell x) q (facet_same (cell x) k) (cells x i)) (l.walls x k i h e))
        (same_cell v (cell y) (tetrahedron q.a q.c q.b f) u (cells y j)))
    side k h (Some z) e f u =
        let q = from_facet (cell x) k in
        let n : IsBackAt live cell (facet_of (cell x) k) z = l.back x k z i h e in
        let t = back_same live cell (facet_of (cell x) k) z n in
        let same : y ≡ z = apart_same v live cell next l y z q.a q.c q.b f t.0 j n.listed u t.1 in
        flooded x k y i m cx h (e ∙ ap Some (sym same)) cy

-- ---- the fan over the links
-- a facet of a cell in conflict with no neighbor in conflict is a fan facet
pub link_fan :
    {X : Type 0} (v : Vertices) → IsBoxed v → IsGeneric v
    → (p : ℕ) (live : List X) (cell : X → Tetrahedron) (next : X → ℕ → Option X) → AreLinked v live cell next
    → ((x : X) → IsIn live x → IsCellOf v (cell x))
    → (x : X) (k : ℕ) → IsIn live x → k < 4 → IsInConflict v p (cell x) → IsRimSide v p cell next x k
    → IsOnFan v p (from_facet (cell x) k).a (from_facet (cell x) k).b (from_facet (cell x) k).c
link_fan {X} v box g p live cell next l cells x k i h cx rim =
    record {
      apex = f.d;
      cell = fc;
      conflict = subst (λ t. t <ℤ pos 0) (sym (same_power v p (cell x) f (facet_same (cell x) k))) cx;
      outside = λ e z. outside e z rim;
    }
  where
    f : Tetrahedron
    f = from_facet (cell x) k

    fc : IsCellOf v f
    fc = same_cell v (cell x) f (facet_same (cell x) k) (cells x i)

    outside : (e : ℕ) → IsCell v f.a f.c f.b e → IsRimSide v p cell next x k → pos 0 ≤ℤ power_of v f.a f.c f.b e p
    outside e z (inl n) = absurd (outer_none v f.a f.b f.c e (wall_outer v box f.a f.b f.c f.d fc (l.walls x k i h n)) z)
    outside e z (inr y) =
        let b : IsBackAt live cell (facet_of (cell x) k) y.0 = l.back x k y.0 i h y.1 in
        let w = back_same live cell (facet_of (cell x) k) y.0 b in
        let yc : IsCell v f.a f.c f.b w.0 = same_cell v (cell y.0) (tetrahedron f.a f.c f.b w.0) w.1 (cells y.0 b.listed) in
        let same : w.0 ≡ e = one_over v g f.a f.c f.b w.0 e yc z in
        subst (λ t. pos 0 ≤ℤ power_of v f.a f.c f.b t p) same
        (subst (λ t. pos 0 ≤ℤ t) (sym (same_power v p (cell y.0) (tetrahedron f.a f.c f.b w.0) w.1)) y.2)

abbrev pub IsFanFacet : Vertices → ℕ → DirectedFacet → Type 0
IsFanFacet v p f = IsOnFan v p f.a f.b f.c

pub fan_rotated : (v : Vertices) (p : ℕ) (f g : DirectedFacet) → IsRotated f g → IsFanFacet v p g → IsFanFacet v p f
fan_rotated v p f g (inl e) h = subst (IsFanFacet v p) e h
fan_rotated v p f g (inr (inl e)) h = fan_spin v p f.c f.a f.b (fan_spin v p f.b f.c f.a (subst (IsFanFacet v p) e h))
fan_rotated v p f g (inr (inr e)) h = fan_spin v p f.c f.a f.b (subst (IsFanFacet v p) e h)

-- each fan facet is one of those
pub fan_link :
    {X : Type 0} (v : Vertices) (p : ℕ) (live : List X) (cell : X → Tetrahedron) (next : X → ℕ → Option X) →
    AreLinked v live cell next → IsFull v live cell → (a b c : ℕ) → IsOnFan v p a b c → IsFanAt v p live cell next a b c
fan_link {X} v p live cell next l full a b c h =
    let x = full.all a b c h.apex h.cell in
    let k = same_facet (cell x.0) (tetrahedron a b c h.apex) x.2 in
    record {
      at = x.0;
      side = k.0;
      listed = x.1;
      in_range = k.1;
      conflict = subst (λ t. t <ℤ pos 0) (same_power v p (cell x.0) (tetrahedron a b c h.apex) x.2) h.conflict;
      rim = rim x.0 k.0 x.1 k.1 (next x.0 k.0) refl (fan_rotated v p (facet_of (cell x.0) k.0) (facet a b c) k.2 h);
      rotated = k.2;
    }
  where
    rim :
        (x : X) (k : ℕ) → IsIn live x → k < 4 → (o : Option X) → next x k ≡ o →
        IsOnFan v p (from_facet (cell x) k).a (from_facet (cell x) k).b (from_facet (cell x) k).c → IsRimSide v p cell next x k
    rim x k i m None e f = inl e
    rim x k i m (Some y) e f =
        let q = from_facet (cell x) k in
        let b : IsBackAt live cell (facet_of (cell x) k) y = l.back x k y i m e in
        let w = back_same live cell (facet_of (cell x) k) y b in
        let z = f.outside w.0 (same_cell v (cell y) (tetrahedron q.a q.c q.b w.0) w.1 (full.cells y b.listed)) in
        inr (y, e, subst (λ t. pos 0 ≤ℤ t) (same_power v p (cell y) (tetrahedron q.a q.c q.b w.0) w.1) z)
