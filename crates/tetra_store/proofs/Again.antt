-- What is kept of linked cells is kept of the rebuilt ones.
--
-- That neighbors name each other is in `Backs`. A facet without a neighbor is on a wall: of an old cell as before, of a new one
-- it is its fan facet, as the others have the vertex p, which is no corner. A facet is in one cell alone: two old cells by what
-- was kept, two new ones as a fan facet or an edge of the fan is there once, an old and a new one as either p would be in the
-- old cell or a fan facet in two old cells.
use Rattle.std.proofs.Common.{ℕ, ◌≡◌, ◌≢◌, ◌<◌, ◌<ℤ◌, pos, Bool, List, length, None, sym, ap, ◌∙◌, inl, inr, subst, arith}
use Rattle.std.proofs.Common.{slice_index}
use Rattle.std.specs.List.{Contains}
use Rattle.geo_sign.specs.Point.{Point}
use Rattle.geo_sign.specs.Tetrahedron.{Tetrahedron, facet, vertex_of, facet_of, IsRotated}
use Rattle.geo_sign.specs.Vertices.{Has, IsWall, orientation_of}
use Rattle.tetra_store.specs.declared.fan.Facet.{Facet}
use Rattle.tetra_store.specs.Links.{Links, IsLive, IsLinked}
use Rattle.tetra_store.specs.Store.{vertices_at}
use Rattle.geo_sign.specs.Edges.{over, edge_start, edge_end, HasVertex}
use Rattle.geo_sign.proofs.Rotations.{rotated_back, rotated_after, turned_back}
use Rattle.geo_sign.proofs.Facets.{in_rotated, in_of, apex_on, IsDistinct}
use Rattle.tetra_store.specs.Fan.{fan_facet, fan_outer}
use Rattle.tetra_store.proofs.Facets.{side_over, same_edge, start_in, end_in, over_distinct, over_in, three_or_below}
use Rattle.tetra_store.proofs.Backs.{distinct_at, has_of, cell_live, fan_apart, fan_has, fan_without, not_fan, back}
use Rattle.tetra_store.proofs.Rebuilt.{IsRebuilding, wall_rotated, wall_turned, wall_below, wall_same}

module _ {points : List Point} {flags flags' : List Bool} {a b : Links} {old : List ℕ} {fan : List Facet} {p : ℕ} {ids : List ℕ}
    (r : IsRebuilding points flags flags' a b old fan p ids) where
  abbrev at_id : ℕ → ℕ
  at_id i = slice_index ids i

  -- ---- walls
  walls_old : (x k : ℕ) → IsLive a x → (¬ Contains old x) → k < 4 → b.next x k ≡ None
      → IsWall (vertices_at points flags') (facet_of (b.at x) k)
  walls_old x k live out l e = elim (r.rebuilt.kept x k live out l) [
    | inr h ↦ let named = h.named in absurd cc
    | inl same ↦
        subst (λ (q : Tetrahedron). IsWall (vertices_at points flags') (facet_of q k)) (sym (r.rebuilt.same x live out))
        (wall_same points flags flags' (facet_of (a.at x) k) (r.linked.walls x k live l (sym same ∙ e)))
  ]

  walls_outer : (i : ℕ) → i < length fan → b.next (at_id i) 3 ≡ None
      → IsWall (vertices_at points flags') (facet_of (b.at (at_id i)) 3)
  walls_outer i l e =
      let m = r.rim.rim i l in
      let n = r.rebuilt in
      let none : a.next m.cell m.side ≡ None = m.neighbor ∙ (sym (n.outer i l) ∙ e) in
      let w =
      wall_rotated (vertices_at points flags) (facet_of (a.at m.cell) m.side) (fan_facet fan i) m.rotated
      (r.linked.walls m.cell m.side (cell_live r i l) m.in_range none) in
      subst (λ (q : Tetrahedron). IsWall (vertices_at points flags') (facet_of q 3)) (sym (n.made_at i l))
      (wall_same points flags flags' (fan_facet fan i) w)

  walls_at : (i k : ℕ) → i < length fan → k < 4 → b.next (at_id i) k ≡ None
      → IsWall (vertices_at points flags') (facet_of (b.at (at_id i)) k)
  walls_at i k l m e = elim (three_or_below k m) [
    | inl s ↦ let h = r.rebuilt.inner i k l s in let named = h.named in absurd cc
    | inr s ↦
        subst (λ (t : ℕ). IsWall (vertices_at points flags') (facet_of (b.at (at_id i)) t)) (sym s)
        (walls_outer i l (subst (λ (t : ℕ). b.next (at_id i) t ≡ None) s e))
  ]

  walls : (x k : ℕ) → IsLive b x → k < 4 → b.next x k ≡ None → IsWall (vertices_at points flags') (facet_of (b.at x) k)
  walls x k live l e = elim (r.rebuilt.only x live) [
    | inl h ↦ walls_old x k h.0 h.1 l e
    | inr h ↦
        subst (λ (t : ℕ). IsWall (vertices_at points flags') (facet_of (b.at t) k)) h.2
        (walls_at h.0 k h.1 l (subst (λ (t : ℕ). b.next t k ≡ None) (sym h.2) e))
  ]

  -- a fan facet on a wall has no cell across
  rim_wall : (i : ℕ) → i < length fan → IsWall (vertices_at points flags) (fan_facet fan i) → fan_outer fan i ≡ None
  rim_wall i l w =
      let m = r.rim.rim i l in
      let c =
      wall_rotated (vertices_at points flags) (fan_facet fan i) (facet_of (a.at m.cell) m.side)
      (rotated_back (facet_of (a.at m.cell) m.side) (fan_facet fan i) m.rotated) w in
      sym m.neighbor ∙ r.linked.inner m.cell m.side (cell_live r i l) m.in_range c

  inner_old : (x k : ℕ) → IsLive a x → (¬ Contains old x) → k < 4 → IsWall (vertices_at points flags) (facet_of (a.at x) k)
      → b.next x k ≡ None
  inner_old x k live out l w = elim (r.rebuilt.kept x k live out l) [
    | inl same ↦ same ∙ r.linked.inner x k live l w
    | inr h ↦
        let none =
        rim_wall h.facet h.facet_in
        (wall_turned (vertices_at points flags) (facet_of (a.at x) k) (fan_facet fan h.facet)
        (turned_back (fan_facet fan h.facet) (facet_of (a.at x) k) h.turned) w) in
        let is = h.outer in
        absurd cc
  ]

  inner_at : (i k : ℕ) → i < length fan → k < 4 → IsWall (vertices_at points flags) (facet_of (over (fan_facet fan i) p) k)
      → b.next (at_id i) k ≡ None
  inner_at i k l m w = elim (three_or_below k m) [
    | inl s ↦
        let low =
        wall_below (vertices_at points flags) (facet_of (over (fan_facet fan i) p) k) p w (apex_on (fan_facet fan i) p k s) in
        let up = r.above in
        absurd (omega arith)
    | inr s ↦
        let w' = subst (λ (t : ℕ). IsWall (vertices_at points flags) (facet_of (over (fan_facet fan i) p) t)) s w in
        subst (λ (t : ℕ). b.next (at_id i) t ≡ None) (sym s) (r.rebuilt.outer i l ∙ rim_wall i l w')
  ]

  inner : (x k : ℕ) → IsLive b x → k < 4 → IsWall (vertices_at points flags') (facet_of (b.at x) k) → b.next x k ≡ None
  inner x k live l w =
      let w' = wall_same points flags' flags (facet_of (b.at x) k) w in
      elim (r.rebuilt.only x live) [
        | inl h ↦
            inner_old x k h.0 h.1 l
            (subst (λ (q : Tetrahedron). IsWall (vertices_at points flags) (facet_of q k)) (r.rebuilt.same x h.0 h.1) w')
        | inr h ↦
            let at : b.at x ≡ over (fan_facet fan h.0) p =
            subst (λ (t : ℕ). b.at t ≡ over (fan_facet fan h.0) p) h.2 (r.rebuilt.made_at h.0 h.1) in
            subst (λ (t : ℕ). b.next t k ≡ None) h.2
            (inner_at h.0 k h.1 l (subst (λ (q : Tetrahedron). IsWall (vertices_at points flags) (facet_of q k)) at w'))
      ]

  -- ---- vertices
  has_over : (i k : ℕ) → i < length fan → k < 4 → Has (vertices_at points flags') (vertex_of (over (fan_facet fan i) p) k)
  has_over i k l m = elim (three_or_below k m) [
    | inl s ↦
        r.more (vertex_of (over (fan_facet fan i) p) k)
        (fan_has r i (vertex_of (over (fan_facet fan i) p) k) l (over_in (fan_facet fan i) p k s))
    | inr s ↦ subst (λ (t : ℕ). Has (vertices_at points flags') (vertex_of (over (fan_facet fan i) p) t)) (sym s) r.in_now
  ]

  -- what holds of each cell that stays, and of each new one, holds of each
  each : (P : Tetrahedron → Type 0) → ((x : ℕ) → IsLive a x → (¬ Contains old x) → P (a.at x))
      → ((i : ℕ) → i < length fan → P (over (fan_facet fan i) p)) → (x : ℕ) → IsLive b x → P (b.at x)
  each P stay come x live = elim (r.rebuilt.only x live) [
    | inl h ↦ subst P (sym (r.rebuilt.same x h.0 h.1)) (stay x h.0 h.1)
    | inr h ↦ subst (λ (t : ℕ). P (b.at t)) h.2 (subst P (sym (r.rebuilt.made_at h.0 h.1)) (come h.0 h.1))
  ]

  -- ---- no facet twice
  apart_mixed : (x i j k : ℕ) → IsLive a x → (¬ Contains old x) → i < length fan → j < 4 → k < 4
      → IsRotated (facet_of (a.at x) j) (facet_of (over (fan_facet fan i) p) k) → ⊥
  apart_mixed x i j k live out l m n h = elim (three_or_below k n) [
    | inr s ↦
        not_fan r x j i live out m l
        (subst (λ (t : ℕ). IsRotated (facet_of (a.at x) j) (facet_of (over (fan_facet fan i) p) t)) s h)
    | inl s ↦ r.new (has_of r.linked x p live (in_of (a.at x) j p
        (in_rotated (facet_of (over (fan_facet fan i) p) k) (facet_of (a.at x) j) p
        (rotated_back (facet_of (a.at x) j) (facet_of (over (fan_facet fan i) p) k) h) (apex_on (fan_facet fan i) p k s))))
  ]

  apart_edges : (i j e d : ℕ) → i < length fan → j < length fan → e < 3 → d < 3
      → IsRotated (facet_of (over (fan_facet fan i) p) e) (facet_of (over (fan_facet fan j) p) d) → i ≡ j
  apart_edges i j e d l m le ld h =
      let f = fan_facet fan i in
      let g = fan_facet fan j in
      let q =
      rotated_after (facet (edge_end f e) (edge_start f e) p) (facet_of (over f p) e) (facet (edge_end g d) (edge_start g d) p)
      (side_over f p e le)
      (rotated_after (facet_of (over f p) e) (facet_of (over g p) d) (facet (edge_end g d) (edge_start g d) p) h
      (rotated_back (facet (edge_end g d) (edge_start g d) p) (facet_of (over g p) d) (side_over g p d ld))) in
      let not_end : edge_end f e ≢ p = λ z. fan_without r i l (subst (λ (t : ℕ). HasVertex f t) z (end_in f e)) in
      let not_start : edge_start f e ≢ p = λ z. fan_without r i l (subst (λ (t : ℕ). HasVertex f t) z (start_in f e)) in
      let s = same_edge (edge_end f e) (edge_start f e) (edge_end g d) (edge_start g d) p not_end not_start q in
      r.edges.once i e j d l le m ld s.1 s.0

  apart_wide : (i j k : ℕ) → i < length fan → j < length fan → k < 3
      → IsRotated (fan_facet fan i) (facet_of (over (fan_facet fan j) p) k) → ⊥
  apart_wide i j k l m s h =
      fan_without r i l
      (in_rotated (facet_of (over (fan_facet fan j) p) k) (fan_facet fan i) p
      (rotated_back (fan_facet fan i) (facet_of (over (fan_facet fan j) p) k) h) (apex_on (fan_facet fan j) p k s))

  apart_new : (i j k m : ℕ) → i < length fan → j < length fan → k < 4 → m < 4
      → IsRotated (facet_of (over (fan_facet fan i) p) k) (facet_of (over (fan_facet fan j) p) m) → i ≡ j
  apart_new i j k m li lj lk lm h = elim (three_or_below k lk) [
    | inl s ↦ elim (three_or_below m lm) [
      | inl t ↦ apart_edges i j k m li lj s t h
      | inr t ↦
          let h' =
          subst (λ (z : ℕ). IsRotated (facet_of (over (fan_facet fan i) p) k) (facet_of (over (fan_facet fan j) p) z)) t h in
          absurd (apart_wide j i k lj li s (rotated_back (facet_of (over (fan_facet fan i) p) k) (fan_facet fan j) h'))
    ]
    | inr s ↦
        let h' =
        subst (λ (z : ℕ). IsRotated (facet_of (over (fan_facet fan i) p) z) (facet_of (over (fan_facet fan j) p) m)) s h in
        elim (three_or_below m lm) [
          | inl t ↦ absurd (apart_wide i j m li lj t h')
          | inr t ↦
              r.rim.once i j li lj (subst (λ (z : ℕ). IsRotated (fan_facet fan i) (facet_of (over (fan_facet fan j) p) z)) t h')
        ]
  ]

  abbrev Common : ℕ → ℕ → Tetrahedron → Tetrahedron → Type 0
  Common j k t u = IsRotated (facet_of t j) (facet_of u k)

  apart : (x y j k : ℕ) → IsLive b x → IsLive b y → j < 4 → k < 4 → IsRotated (facet_of (b.at x) j) (facet_of (b.at y) k)
      → x ≡ y
  apart x y j k lx ly lj lk h = elim (r.rebuilt.only x lx) [
    | inl u ↦
        let h' : Common j k (a.at x) (b.at y) =
        subst (λ (t : Tetrahedron). Common j k t (b.at y)) (r.rebuilt.same x u.0 u.1) h in
        elim (r.rebuilt.only y ly) [
          | inl w ↦
              r.linked.apart x y j k u.0 w.0 lj lk
              (subst (λ (t : Tetrahedron). Common j k (a.at x) t) (r.rebuilt.same y w.0 w.1) h')
          | inr w ↦
              let at : b.at y ≡ over (fan_facet fan w.0) p =
              subst (λ (t : ℕ). b.at t ≡ over (fan_facet fan w.0) p) w.2 (r.rebuilt.made_at w.0 w.1) in
              absurd (apart_mixed x w.0 j k u.0 u.1 w.1 lj lk (subst (λ (t : Tetrahedron). Common j k (a.at x) t) at h'))
        ]
    | inr u ↦
        let at : b.at x ≡ over (fan_facet fan u.0) p =
        subst (λ (t : ℕ). b.at t ≡ over (fan_facet fan u.0) p) u.2 (r.rebuilt.made_at u.0 u.1) in
        let h' : Common j k (over (fan_facet fan u.0) p) (b.at y) = subst (λ (t : Tetrahedron). Common j k t (b.at y)) at h in
        elim (r.rebuilt.only y ly) [
          | inl w ↦
              let h'' : Common j k (over (fan_facet fan u.0) p) (a.at y) =
              subst (λ (t : Tetrahedron). Common j k (over (fan_facet fan u.0) p) t) (r.rebuilt.same y w.0 w.1) h' in
              absurd (apart_mixed y u.0 k j w.0 w.1 u.1 lk lj
              (rotated_back (facet_of (over (fan_facet fan u.0) p) j) (facet_of (a.at y) k) h''))
          | inr w ↦
              let at_y : b.at y ≡ over (fan_facet fan w.0) p =
              subst (λ (t : ℕ). b.at t ≡ over (fan_facet fan w.0) p) w.2 (r.rebuilt.made_at w.0 w.1) in
              let e : u.0 ≡ w.0 =
              apart_new u.0 w.0 j k u.1 w.1 lj lk
              (subst (λ (t : Tetrahedron). Common j k (over (fan_facet fan u.0) p) t) at_y h') in
              sym u.2 ∙ (ap (λ (i : ℕ). at_id i) e ∙ w.2)
        ]
  ]

  abbrev Positive : Tetrahedron → Type 0
  Positive t = pos 0 <ℤ orientation_of (vertices_at points flags') t.a t.b t.c t.d

  pub linked_again : IsLinked (vertices_at points flags') b
  linked_again = record {
    has =
        λ x k live l. each (λ t. Has (vertices_at points flags') (vertex_of t k))
        (λ y h out. r.more (vertex_of (a.at y) k) (r.linked.has y k h l)) (λ i m. has_over i k m l) x live;
    distinct =
        λ x j k live l m e. each IsDistinct (λ y h out. distinct_at r.linked y h)
        (λ i n. over_distinct (fan_facet fan i) p (fan_apart r i n) (fan_without r i n)) x live j k l m e;
    positive = λ x live. each Positive (λ y h out. r.linked.positive y h) (λ i m. r.before i m) x live;
    back = back r;
    walls = walls;
    inner = inner;
    apart = apart;
  }
