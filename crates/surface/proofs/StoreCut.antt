-- The sorted facets of the sides between cells with a flag and cells with none are those that labels cut, where the flags are the
-- labels turned round. A facet of a positive cell has three distinct vertices, and no two sides have one facet, so the facets rise
-- strictly and are a list of faces.
use Rattle.std.proofs.Common.{ℕ, ◌<◌, ◌≤◌, ◌^◌, ◌≡◌, ◌≢◌, sym, ap, ap₂, subst, ◌∙◌, ⊎_elim, arith, Bool, not, List, length}
use Rattle.std.proofs.Common.{get_or, map, Option, AllPairs, Contains}
use Rattle.std.proofs.lemmas.Bool.{not-true, not-false, not_from_false}
use Rattle.std.proofs.lemmas.List.{get_or-map, length-map}
use Rattle.std.proofs.lemmas.List.Elements.{Contains-get_or}
use Rattle.flow_net.specs.Nets.{flag_at}
use Rattle.geo_sign.specs.Tetrahedron.{Tetrahedron, DirectedFacet, facet_of, IsRotated}
use Rattle.geo_sign.specs.Rising.{IsBefore}
use Rattle.geo_sign.specs.Vertices.{Vertices}
use Rattle.geo_sign.proofs.CellRows.{AreDistinct, distinct}
use Rattle.geo_sign.proofs.Rotations.{rotated_after, rotated_back}
use Rattle.cell_laws.proofs.OneFacet.{one_side}
use Rattle.mesh.specs.Meshes.{IsFace, IsFaceList}
use Rattle.tetra_store.specs.declared.link.Cell.{Cell}
use Rattle.tetra_store.specs.Links.{links_of, IsLinked, IsLive}
use Rattle.cell_net.specs.declared.sides.Side.{Side}
use Rattle.cell_net.specs.CellRows.{least_first, facet_row}
use Rattle.cell_net.specs.CutSides.{IsCutSide}
use Rattle.cell_net.specs.Gathered.{facet_key}
use Rattle.cell_net.specs.Parts.{facet_of_side}
use Rattle.cell_net.proofs.CellRows.{least_rotated, side_least}
use Rattle.cell_net.proofs.Entries.{map_has, map_gets}
use Rattle.cell_net.proofs.KeyOrders.{AreSmallOf, facets_before}
use Rattle.cell_net.proofs.Nodes.{no_side}
use Rattle.surface.specs.Labelled.{AreCutFacets, IsCutFacet, IsSortedCut}

-- ---- three distinct vertices below a limit
AreProper : ℕ → DirectedFacet → Type 0
AreProper n f = (f.a < n) × (f.b < n) × (f.c < n) × (f.a ≢ f.b) × (f.b ≢ f.c) × (f.c ≢ f.a)

proper_rotated : (n : ℕ) (f g : DirectedFacet) → IsRotated f g → AreProper n f → AreProper n g
unfolding AreProper
proper_rotated n f g h e = grind arith

proper_side : (n : ℕ) (t : Tetrahedron) (k : ℕ) → AreDistinct t → t.a < n → t.b < n → t.c < n → t.d < n
    → AreProper n (facet_of t k)
unfolding AreProper
proper_side n t k q a b c d = grind arith

least_same : (f g : DirectedFacet) → least_first f ≡ least_first g → IsRotated f g
least_same f g e = grind (arith, rotated_after, least_rotated, rotated_back)

module _ (v : Vertices) (slots : List (Option Cell)) (linked : IsLinked v (links_of slots)) where
  abbrev cell : ℕ → Tetrahedron
  cell = (links_of slots).at

  -- the facet of a side is a face
  face_at : (x k : ℕ) → IsLive (links_of slots) x → IsFace v.count (facet_row (cell x) k)
  unfolding AreProper
  face_at x k h =
      let f : DirectedFacet = least_first (facet_of (cell x) k) in
      let l = side_least v (cell x) k (linked.positive x h) in
      let p : AreProper v.count f =
      proper_rotated v.count (facet_of (cell x) k) f (least_rotated (facet_of (cell x) k))
      (proper_side v.count (cell x) k (distinct v (cell x) (linked.positive x h)) (linked.has x 0 h (omega arith)).0
      (linked.has x 1 h (omega arith)).0 (linked.has x 2 h (omega arith)).0 (linked.has x 3 h (omega arith)).0) in
      (l.0, l.1, p.4, p.1, p.2)

  -- sides with one facet are one
  pub one_of_facet : (x y j k : ℕ) → IsLive (links_of slots) x → IsLive (links_of slots) y → j < 4 → k < 4
      → IsRotated (facet_of (cell x) j) (facet_of (cell y) k) → (x ≡ y) × (j ≡ k)
  one_of_facet x y j k hx hy hj hk r = grind (arith, one_side)

  -- ---- sorted facets
  module _ (few : v.count ≤ 2 ^ 32) (outside : List Bool) (facets : List (List ℕ))
      (cut : IsSortedCut slots outside facets) where
    side_in : (i : ℕ) → i < length cut.sides → IsCutSide slots outside (get_or cut.sides i no_side)
    side_in i l = cut.are_cut.each (get_or cut.sides i no_side) (Contains-get_or cut.sides i no_side l)

    small : (x k : ℕ) → IsLive (links_of slots) x → AreSmallOf (least_first (facet_of (cell x) k))
    small x k h = grind (arith, face_at)

    rise : AllPairs IsBefore (map facet_of_side cut.sides)
    rise i j d l m =
        let n = length-map cut.sides facet_of_side in
        let lj : j < length cut.sides = omega (arith, m, n) in
        let li : i < length cut.sides = omega (arith, l, lj) in
        let x = get_or cut.sides i no_side in
        let y = get_or cut.sides j no_side in
        let p = side_in i li in
        let q = side_in j lj in
        let key : facet_key (facet_row (cell x.id) x.side) ≤ facet_key (facet_row (cell y.id) y.side) =
        subst (λ (k : ℕ). k ≤ facet_key (facet_row (cell y.id) y.side)) (ap facet_key p.facet_is)
        (subst (λ (k : ℕ). facet_key x.facet ≤ k) (ap facet_key q.facet_is) (cut.sorted i j no_side (omega (arith, l)) lj)) in
        subst (λ (a : List ℕ). IsBefore a (get_or (map facet_of_side cut.sides) j d))
        (sym (get_or-map facet_of_side cut.sides i no_side d li ∙ p.facet_is))
        (subst (λ (b : List ℕ). IsBefore (facet_row (cell x.id) x.side) b)
        (sym (get_or-map facet_of_side cut.sides j no_side d lj ∙ q.facet_is))
        (⊎_elim (λ (h : IsBefore (facet_row (cell x.id) x.side) (facet_row (cell y.id) y.side)). h)
        (λ (e : least_first (facet_of (cell x.id) x.side) ≡ least_first (facet_of (cell y.id) y.side)).
        let one =
        one_of_facet x.id y.id x.side y.side p.live q.live p.in_range q.in_range
        (least_same (facet_of (cell x.id) x.side) (facet_of (cell y.id) y.side) e) in
        let id = one.0 in
        let side = one.1 in
        let same : i ≡ j = cut.are_cut.once i j no_side li lj (omega (arith, id, side)) in
        absurd (omega (arith, l, same)))
        (facets_before (least_first (facet_of (cell x.id) x.side)) (least_first (facet_of (cell y.id) y.side))
        (small x.id x.side p.live) (small y.id y.side q.live) key)))

    faces : IsFaceList v.count (map facet_of_side cut.sides)
    faces =
        record {
          each = λ i d m.
              (let n = length-map cut.sides facet_of_side in
              let l : i < length cut.sides = omega (arith, m, n) in
              let p = side_in i l in
              let x = get_or cut.sides i no_side in
              subst (IsFace v.count) (sym (get_or-map facet_of_side cut.sides i no_side d l ∙ p.facet_is))
              (face_at x.id x.side p.live));
          rising = rise;
        }

    pub are_faces : IsFaceList v.count facets
    are_faces = subst (IsFaceList v.count) (sym cut.facets_are) faces

    -- ---- labels of the cells
    module _ (inside : ℕ → Bool) (flags : (x : ℕ) → IsLive (links_of slots) x → flag_at outside x ≡ not (inside x)) where
      only : (x : Side) → Contains cut.sides x → IsCutFacet slots inside x.facet
      only x h =
          let p = cut.are_cut.each x h in
          let b = linked.back x.id x.side p.other p.live p.in_range p.next in
          record {
            own = x.id;
            side = x.side;
            other = p.other;
            live = p.live;
            in_range = p.in_range;
            across = p.next;
            is_outside = not-true (inside x.id) (sym (flags x.id p.live) ∙ p.own);
            is_inside = not-false (inside p.other) (sym (flags p.other b.live) ∙ p.inside);
            facet_is = p.facet_is;
          }

      there : (f : List ℕ) → IsCutFacet slots inside f → Contains (map facet_of_side cut.sides) f
      there f c =
          let b = linked.back c.own c.side c.other c.live c.in_range c.across in
          let z =
          cut.are_cut.all c.own c.side c.other c.in_range c.across
          (flags c.own c.live ∙ not_from_false (inside c.own) c.is_outside)
          (flags c.other b.live ∙ ap not c.is_inside) in
          let is : z.0.facet ≡ f =
          (cut.are_cut.each z.0 z.1).facet_is ∙ ap₂ (λ (i k : ℕ). facet_row (cell i) k) z.2 z.3 ∙ sym c.facet_is in
          subst (Contains (map facet_of_side cut.sides)) is (map_gets facet_of_side cut.sides z.0 z.1)

      pub are_cut_facets : AreCutFacets slots inside facets
      are_cut_facets =
          subst (AreCutFacets slots inside) (sym cut.facets_are)
          (record {
            only = λ f h.
                (let p = map_has facet_of_side cut.sides f h in
                subst (IsCutFacet slots inside) p.is (only p.from p.listed));
            all = there;
            rising = rise;
          })
