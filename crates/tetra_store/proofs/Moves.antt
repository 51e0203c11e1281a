-- Cells under other numbers.
--
-- The place of a number and the number at a place lead to each other (`one_more`). The cells that are copied there, with the
-- places of their neighbors, are those of before (`renumbered`). What is kept of linked cells is said of them by their vertices
-- and by who is across, so it is kept (`linked_again`, `delaunay_again`).
use Rattle.std.proofs.Common.{ℕ, zero, suc, ◌≡◌, ◌≢◌, ◌<◌, ◌+◌, ◌^◌, ◌<ℤ◌, pos, Bool, true≢false, List, [], ◌∷◌, ◌++◌}
use Rattle.std.proofs.Common.{length, Option, Some, None, is_some, refl, sym, ap, ◌∙◌, inl, inr, subst, arith, slice_index}
use Rattle.std.proofs.Common.{slice_index_or}
use Rattle.std.proofs.Math.ListN.{set}
use Rattle.std.proofs.lemmas.Bool.{cases_eq, cases_lt}
use Rattle.std.proofs.lemmas.List.{get_or-set_same, get_or-set_other, get_or_append_left, get_or_at, length_push}
use Rattle.geo_sign.specs.Point.{Point}
use Rattle.geo_sign.specs.Cells.{IsCell}
use Rattle.geo_sign.specs.Tetrahedron.{Tetrahedron, vertex_of, facet_of, IsRotated, IsTurned}
use Rattle.geo_sign.specs.Vertices.{Vertices, Has, IsWall, orientation_of}
use Rattle.geo_sign.specs.Writings.{IsVertexOf}
use Rattle.tetra_store.specs.declared.link.Cell.{Cell}
use Rattle.tetra_store.specs.Links.{Links, links_of, slot_at, vertices_in, next_in, IsLive, IsLinked}
use Rattle.tetra_store.specs.Store.{IsStore, vertices_at}
use Rattle.tetra_store.specs.Delaunay.{IsDelaunay}
use Rattle.tetra_store.specs.Renumbered.{IsPlaced, HasPlace, AreWithin, AreAssigned, across_by, moved, moved_slot, AreMoved}
use Rattle.tetra_store.specs.Renumbered.{IsRenumbered, AreKeptMoved}
use Rattle.tetra_store.proofs.Putting.{pushed_cases}

none_some : {n : ℕ} → None ≡ Some n → ⊥
none_some h = cc

some_is : {m n : ℕ} → Some m ≡ Some n → m ≡ n
some_is h = cc

-- ---- places
-- a number that is there and not free has a place
pub placed_or : (places : List (Option ℕ)) (x : ℕ) → ¬ (slice_index_or places x None ≡ None) → HasPlace places x
placed_or places x h = grind arith

module _ (links : Links) (places : List (Option ℕ)) (from : List ℕ) (at : ℕ) (h : AreAssigned links places from)
    (within : at < length places) (free : slice_index_or places at None ≡ None) (live : IsLive links at)
    (small : length from + 1 < 2 ^ 32) where
  abbrev now : List (Option ℕ)
  now = set places at (Some (length from))

  pub placed_here : slice_index_or now at None ≡ Some (length from)
  placed_here = get_or-set_same places at (Some (length from)) None within

  other : (x : ℕ) → x ≢ at → slice_index_or now x None ≡ slice_index_or places x None
  other x n = get_or-set_other places at x (Some (length from)) None n

  pub placed_still : (x n : ℕ) → IsPlaced places x n → IsPlaced now x n
  placed_still x n e =
      other x (λ i. none_some (sym free ∙ (ap (λ (y : ℕ). slice_index_or places y None) (sym i) ∙ e))) ∙ e

  pub one_more : AreAssigned links now (from ++ at ∷ [])
  one_more = record {
    forth = λ x n e. elim (cases_eq x at) [
      | inl i ↦
          let q : length from ≡ n =
          some_is (sym placed_here ∙ (ap (λ (y : ℕ). slice_index_or now y None) (sym i) ∙ e)) in
          let m = length_push from at in
          (omega (arith, m, q), get_or_at from at [] 0 n q ∙ sym i)
      | inr d ↦
          let o = h.forth x n (sym (other x d) ∙ e) in
          let l = o.0 in
          let m = length_push from at in
          (omega (arith, m, l), get_or_append_left from (at ∷ []) 0 n l ∙ o.1)
    ];
    back = λ n l. elim (pushed_cases from at n l) [
      | inl p ↦
          subst (λ (x : ℕ). IsPlaced now x n) (sym p.1) (placed_still (slice_index from n) n (h.back n p.0))
      | inr p ↦
          subst (λ (x : ℕ). IsPlaced now x n) (sym p.1)
          (subst (λ (m : ℕ). IsPlaced now at m) (sym p.0) placed_here)
    ];
    live = λ n l. elim (pushed_cases from at n l) [
      | inl p ↦ subst (λ (x : ℕ). IsLive links x) (sym p.1) (h.live n p.0)
      | inr p ↦ subst (λ (x : ℕ). IsLive links x) (sym p.1) live
    ];
    few = let m = length_push from at in omega (arith, m, small);
  }

-- ---- moved cells
pub moved_within : (slots : List (Option Cell)) (n id : ℕ) (c : Cell) → AreWithin (links_of slots) n → slot_at slots id ≡ Some c
    → (k y : ℕ) → k < 4 → slice_index_or c.next k None ≡ Some y → y < n
moved_within slots n id c h e k y l i = h id k y (ap is_some e) l (ap (λ (o : Option Cell). next_in o k) e ∙ i)

pub moved_more : (old slots new : List (Option Cell)) (places : List (Option ℕ)) (from : List ℕ) (at : ℕ) (c : Cell)
    → AreMoved old slots places from at → slot_at old (slice_index from at) ≡ Some c → slot_at new at ≡ Some (moved places c)
    → ((x : ℕ) → x ≢ at → slot_at new x ≡ slot_at slots x) → AreMoved old new places from (at + 1)
moved_more old slots new places from at c h is here others = grind arith

moved_next : (places : List (Option ℕ)) (o : Option Cell) (k : ℕ) → k < 4
    → next_in (moved_slot places o) k ≡ across_by places (next_in o k)
moved_next places None k l = refl
moved_next places (Some c) zero l = refl
moved_next places (Some c) (suc zero) l = refl
moved_next places (Some c) (suc (suc zero)) l = refl
moved_next places (Some c) (suc (suc (suc zero))) l = refl
moved_next places (Some c) (suc (suc (suc (suc k)))) l = absurd (omega (arith, l))

moved_vertices : (places : List (Option ℕ)) (o : Option Cell) → vertices_in (moved_slot places o) ≡ vertices_in o
moved_vertices places None = refl
moved_vertices places (Some c) = refl

moved_live : (places : List (Option ℕ)) (o : Option Cell) → is_some (moved_slot places o) ≡ is_some o
moved_live places None = refl
moved_live places (Some c) = refl

module _ (v : Vertices) (old slots : List (Option Cell)) (places : List (Option ℕ)) (from : List ℕ)
    (assigned : AreAssigned (links_of old) places from)
    (all : (x : ℕ) → IsLive (links_of old) x → HasPlace places x)
    (moved_all : AreMoved old slots places from (length from))
    (linked : IsLinked v (links_of old)) where
  live_in : (y : ℕ) → IsLive (links_of slots) y → y < length from
  live_in y l = elim (cases_lt y (length from)) [
    | inl less ↦ less
    | inr more ↦ absurd (true≢false (sym l ∙ ap is_some (moved_all.left y more)))
  ]

  live_at : (y : ℕ) → y < length from → IsLive (links_of slots) y
  live_at y l =
      ap is_some (moved_all.done y l) ∙ (moved_live places (slot_at old (slice_index from y)) ∙ assigned.live y l)

  same_at : (y : ℕ) → y < length from → (links_of slots).at y ≡ (links_of old).at (slice_index from y)
  same_at y l = ap vertices_in (moved_all.done y l) ∙ moved_vertices places (slot_at old (slice_index from y))

  next_at : (y k : ℕ) → y < length from → k < 4
      → (links_of slots).next y k ≡ across_by places ((links_of old).next (slice_index from y) k)
  next_at y k l m =
      ap (λ (o : Option Cell). next_in o k) (moved_all.done y l) ∙ moved_next places (slot_at old (slice_index from y)) k m

  across_at : (y k z : ℕ) → y < length from → k < 4 → (links_of slots).next y k ≡ Some z
      → IsLive (links_of slots) z × ((links_of old).next (slice_index from y) k ≡ Some (slice_index from z))
  across_at y k z l m e = by ((links_of old).next (slice_index from y) k) refl
    where
      by : (o : Option ℕ) → (links_of old).next (slice_index from y) k ≡ o
          → IsLive (links_of slots) z × ((links_of old).next (slice_index from y) k ≡ Some (slice_index from z))
      by None i = absurd (none_some (sym (next_at y k l m ∙ ap (across_by places) i) ∙ e))
      by (Some x) i =
          let f = assigned.forth x z (sym (next_at y k l m ∙ ap (across_by places) i) ∙ e) in
          (live_at z f.0, i ∙ ap (λ (n : ℕ). Some n) (sym f.1))

  alone_at : (y k : ℕ) → y < length from → k < 4 → (links_of slots).next y k ≡ None
      → (links_of old).next (slice_index from y) k ≡ None
  alone_at y k l m e = by ((links_of old).next (slice_index from y) k) refl
    where
      by : (o : Option ℕ) → (links_of old).next (slice_index from y) k ≡ o
          → (links_of old).next (slice_index from y) k ≡ None
      by None i = i
      by (Some x) i =
          let p = all x (linked.back (slice_index from y) k x (assigned.live y l) m i).live in
          absurd (none_some (sym e ∙ ((next_at y k l m ∙ ap (across_by places) i) ∙ p.1)))

  pub renumbered : IsRenumbered (links_of old) (links_of slots)
  renumbered = record {
    from = λ y. slice_index from y;
    live = λ y l. assigned.live y (live_in y l);
    all = λ x l. (let p = all x l in let f = assigned.forth x p.0 p.1 in (p.0, live_at p.0 f.0, f.1));
    once = λ y z l m e.
        some_is (sym (assigned.back y (live_in y l))
        ∙ (ap (λ (x : ℕ). slice_index_or places x None) e ∙ assigned.back z (live_in z m)));
    same = λ y l. same_at y (live_in y l);
    across = λ y k z l m e. across_at y k z (live_in y l) m e;
    alone = λ y k l m e. alone_at y k (live_in y l) m e;
    compact = λ y z l m. live_at y (let n = live_in z m in omega (arith, n, l));
  }

  -- the kept cells
  pub kept_again : (kept new : List ℕ) (u : ℕ) → AreKeptMoved places kept new (length kept) → u < length kept
      → IsLive (links_of old) (slice_index kept u) → IsVertexOf ((links_of old).at (slice_index kept u)) u
      → IsLive (links_of slots) (slice_index new u) × IsVertexOf ((links_of slots).at (slice_index new u)) u
  kept_again kept new u h l live has =
      let p = all (slice_index kept u) live in
      let f = assigned.forth (slice_index kept u) p.0 p.1 in
      let e = sym (h.done u p.0 l p.1) in (
        subst (λ (z : ℕ). IsLive (links_of slots) z) e (live_at p.0 f.0),
        subst (λ (z : ℕ). IsVertexOf ((links_of slots).at z) u) e
            (subst (λ (t : Tetrahedron). IsVertexOf t u) (sym (same_at p.0 f.0 ∙ ap (λ (x : ℕ). (links_of old).at x) f.1)) has),
      )

-- ---- what is kept
module _ (v : Vertices) (a b : Links) (r : IsRenumbered a b) (h : IsLinked v a) where
  named_again : (id other side : ℕ) → IsLive b id → IsLive b other → side < 4
      → a.next (r.from other) side ≡ Some (r.from id) → b.next other side ≡ Some id
  named_again id other side l m n e = by (b.next other side) refl
    where
      by : (o : Option ℕ) → b.next other side ≡ o → b.next other side ≡ Some id
      by None i = absurd (none_some (sym (r.alone other side m n i) ∙ e))
      by (Some w) i =
          let z = r.across other side w m n i in
          i ∙ ap (λ (x : ℕ). Some x) (r.once w id z.0 l (some_is (sym z.1 ∙ e)))

  inner_again : (id k : ℕ) → IsLive b id → k < 4 → IsWall v (facet_of (b.at id) k) → b.next id k ≡ None
  inner_again id k l m w = by (b.next id k) refl
    where
      by : (o : Option ℕ) → b.next id k ≡ o → b.next id k ≡ None
      by None i = i
      by (Some z) i =
          let n =
          h.inner (r.from id) k (r.live id l) m
          (subst (λ (t : Tetrahedron). IsWall v (facet_of t k)) (r.same id l) w) in
          absurd (none_some (sym n ∙ (r.across id k z l m i).1))

  pub linked_again : IsLinked v b
  linked_again = record {
    has = λ id k l m.
        subst (λ (t : Tetrahedron). Has v (vertex_of t k)) (sym (r.same id l)) (h.has (r.from id) k (r.live id l) m);
    distinct = λ id j k l m n e.
        h.distinct (r.from id) j k (r.live id l) m n
        (subst (λ (t : Tetrahedron). vertex_of t j ≡ vertex_of t k) (r.same id l) e);
    positive = λ id l.
        subst (λ (t : Tetrahedron). pos 0 <ℤ orientation_of v t.a t.b t.c t.d) (sym (r.same id l))
        (h.positive (r.from id) (r.live id l));
    back = λ id k other l m e.
        (let z = r.across id k other l m e in let w = h.back (r.from id) k (r.from other) (r.live id l) m z.1 in
        record {
          live = z.0;
          side = w.side;
          in_range = w.in_range;
          turned =
              subst (λ (t : Tetrahedron). IsTurned (facet_of t k) (facet_of (b.at other) w.side)) (sym (r.same id l))
              (subst (λ (t : Tetrahedron). IsTurned (facet_of (a.at (r.from id)) k) (facet_of t w.side))
              (sym (r.same other z.0)) w.turned);
          named = named_again id other w.side l z.0 w.in_range w.named;
        });
    walls = λ id k l m e.
        subst (λ (t : Tetrahedron). IsWall v (facet_of t k)) (sym (r.same id l))
        (h.walls (r.from id) k (r.live id l) m (r.alone id k l m e));
    inner = inner_again;
    apart = λ x y j k l m n o e.
        r.once x y l m
        (h.apart (r.from x) (r.from y) j k (r.live x l) (r.live y m) n o
        (subst (λ (t : Tetrahedron). IsRotated (facet_of (a.at (r.from x)) j) (facet_of t k)) (r.same y m)
        (subst (λ (t : Tetrahedron). IsRotated (facet_of t j) (facet_of (b.at y) k)) (r.same x l) e)));
  }

pub cells_again : (v : Vertices) (a b : Links) → IsRenumbered a b
    → ((id : ℕ) → IsLive a id → IsCell v (a.at id).a (a.at id).b (a.at id).c (a.at id).d) → (id : ℕ) → IsLive b id
    → IsCell v (b.at id).a (b.at id).b (b.at id).c (b.at id).d
cells_again v a b r h id l =
    subst (λ (t : Tetrahedron). IsCell v t.a t.b t.c t.d) (sym (r.same id l)) (h (r.from id) (r.live id l))

pub delaunay_again : (v : Vertices) (a b : Links) → IsRenumbered a b → IsDelaunay v a → IsDelaunay v b
delaunay_again v a b r h = record {
  cells = cells_again v a b r h.cells;
  all = λ p q s t k.
      (let c = h.all p q s t k in let y = r.all c.cell c.live in
      let e = sym (r.same y.0 y.1 ∙ ap a.at y.2) in
      record {
        cell = y.0;
        live = y.1;
        has_a = subst (λ (z : Tetrahedron). IsVertexOf z p) e c.has_a;
        has_b = subst (λ (z : Tetrahedron). IsVertexOf z q) e c.has_b;
        has_c = subst (λ (z : Tetrahedron). IsVertexOf z s) e c.has_c;
        has_d = subst (λ (z : Tetrahedron). IsVertexOf z t) e c.has_d;
      });
}

-- ---- the store
pub store_moved : (points : List Point) (inserted : List Bool) (old slots : List (Option Cell)) (kept new : List ℕ)
    (spare spare_now capacity capacity_now : ℕ) (places : List (Option ℕ)) (from : List ℕ)
    → IsStore (record { points = points; inserted = inserted; slots = old; kept = kept; spare = spare; capacity = capacity })
    → AreAssigned (links_of old) places from → ((x : ℕ) → IsLive (links_of old) x → HasPlace places x)
    → AreMoved old slots places from (length from) → AreKeptMoved places kept new (length kept)
    → IsStore
    (record { points = points; inserted = inserted; slots = slots; kept = new; spare = spare_now; capacity = capacity_now })
store_moved points inserted old slots kept new spare spare_now capacity capacity_now places from s assigned all moved_all kept_moved =
    let v = vertices_at points inserted in
    record {
      flags = s.flags;
      keeps = kept_moved.count ∙ s.keeps;
      vertices = s.vertices;
      linked =
          linked_again v (links_of old) (links_of slots) (renumbered v old slots places from assigned all moved_all s.linked)
          s.linked;
      kept_cells = λ u h.
          (let k = s.kept_cells u h in
          let l : u < length kept = (let m = h.0 in let n = s.keeps in omega (arith, m, n)) in
          kept_again v old slots places from assigned all moved_all s.linked kept new u kept_moved l k.0 k.1);
    }

-- no cell names a neighbor that is not among n numbers, where all numbers of cells are
pub links_within : (v : Vertices) (slots : List (Option Cell)) (n : ℕ) → IsLinked v (links_of slots)
    → ((x : ℕ) → IsLive (links_of slots) x → x < n) → AreWithin (links_of slots) n
links_within v slots n linked below x k y live l e = below y (linked.back x k y live l e).live
