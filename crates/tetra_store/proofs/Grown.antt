-- The steps that put cells over a fan in, one after another.
--
-- The edges of the fan can be joined in any order: each comes from one side of one new cell, its reverse is another edge of the
-- fan, and two edges with the same two vertices are that edge and its reverse, since each directed edge is there once. What is
-- joined then are the new cells over facets with an edge in its two directions.
use Rattle.std.proofs.Common.{◌==◌, ◌≢◌, ℕ, ◌≡◌, ◌<◌, ◌+◌, ◌^◌, true, false, List, length, Option, Some, None, sym, ap, ◌∙◌}
use Rattle.std.proofs.Common.{◌⊎◌, inl, inr, subst, arith, slice_index}
use Rattle.std.specs.Prelude.{is_some}
use Rattle.std.specs.List.{Contains, IsDistinct}
use Rattle.std.specs.List.Sorted.{IsPermutation}
use Rattle.std.proofs.lemmas.List.Sorted.{Contains-permutation, IsPermutation-sym}
use Rattle.std.proofs.lemmas.List.{get_or_default}
use Rattle.std.proofs.lemmas.List.Elements.{Contains-get_or}
use Rattle.std.proofs.lemmas.Bool.{cases_lt, eq-eqb, false≢true, and_from}
use Rattle.std.proofs.lemmas.Map.Keys.{IsDistinct-IsPermutation, apart_from_distinct}
use Rattle.tetra_store.specs.Edges.{key_of_edge, no_edge, edge_at, IsReverse, HasPair}
use Rattle.tetra_store.proofs.Joins.{fan_from, fan_to, fan_distinct, same_place, same_place_flips, ends_of}
use Rattle.geo_sign.specs.Tetrahedron.{Tetrahedron, facet_of, IsTurned}
use Rattle.tetra_store.specs.declared.link.Cell.{Cell}
use Rattle.tetra_store.specs.declared.fan.Facet.{Facet}
use Rattle.tetra_store.specs.declared.edge.Edge.{Edge}
use Rattle.tetra_store.specs.Links.{Links, slot_at, links_of, vertices_in, next_in, IsLive}
use Rattle.geo_sign.specs.Edges.{edge_start, edge_end}
use Rattle.tetra_store.specs.Fan.{fan_facet, fan_outer}
use Rattle.tetra_store.specs.Steps.{new_cell, ArePut, IsNamed, IsRenamed, AreNamed, IsFacing, AreFacing, IsFanEdge, edge_of}
use Rattle.tetra_store.specs.Steps.{AreFanEdges, AreJoined, CanJoinEdges, CanGrow, IsMated, IsGrown}

-- the place of a number in a list
pub place_in : (ids : List ℕ) (x : ℕ) → Contains ids x → (i : ℕ) × (i < length ids) × (slice_index ids i ≡ x)
place_in ids x h = (h.0, h.1, get_or_default ids h.0 0 x h.1 ∙ h.2)

pub none_not_live : (slots : List (Option Cell)) (x : ℕ) → slot_at slots x ≡ None → IsLive (links_of slots) x → ⊥
none_not_live slots x e live = let h : false ≡ true = subst (λ (o : Option Cell). is_some o ≡ true) e live in cc

module _ (old new : List (Option Cell)) (fan : List Facet) (p : ℕ) (ids : List ℕ)
    (put : ArePut old new (new_cell fan p) ids) where
  pub put_fresh : (x : ℕ) → Contains ids x → IsLive (links_of old) x → ⊥
  put_fresh x h live =
      let k = place_in ids x h in
      none_not_live old x (subst (λ (z : ℕ). slot_at old z ≡ None) k.2 (put.fresh k.0 k.1)) live

  pub put_stays : (x : ℕ) → IsLive (links_of old) x → slot_at new x ≡ slot_at old x
  put_stays x live = elim (put.kept x) [
    | inl e ↦ e
    | inr h ↦ absurd (put_fresh x h live)
  ]

  pub put_live : (i : ℕ) → i < length ids → IsLive (links_of new) (slice_index ids i)
  put_live i l = ap (λ (o : Option Cell). is_some o) (put.put i l)

  pub put_facing : AreFacing (links_of old) fan → AreFacing (links_of new) fan
  put_facing f = record {
    live = λ i y l e. ap (λ (o : Option Cell). is_some o) (put_stays y (f.live i y l e)) ∙ f.live i y l e;
    facing =
        λ i y l e. subst (λ (t : Tetrahedron). IsFacing t (fan_facet fan i))
        (ap (λ (o : Option Cell). vertices_in o) (sym (put_stays y (f.live i y l e)))) (f.facing i y l e);
  }

-- the edges of a fan can be joined
pub fan_joins : (s1 s0 : List (Option Cell)) (b : Links) (fan : List Facet) (p : ℕ) (ids : List ℕ) (edges sorted : List Edge)
    → ArePut s0 s1 (new_cell fan p) ids → length ids ≡ length fan → AreNamed (links_of s1) b fan ids (length fan)
    → AreFanEdges fan ids edges (length fan) → IsPermutation edges sorted → CanGrow (links_of s0) fan → CanJoinEdges b sorted
fan_joins s1 s0 b fan p ids edges sorted put n named fe moved can = record {
  pairs = record { some = some; only = only };
  once = λ x y h k c s.
      let f = from x h in
      let g = from y k in
      let i : f.facet ≡ g.facet =
      put.distinct f.facet g.facet (let l = f.facet_in in omega arith) (let l = g.facet_in in omega arith)
      (sym f.cell_is ∙ (c ∙ g.cell_is)) in
      let e : f.opposite ≡ g.opposite = sym f.side_is ∙ (s ∙ g.side_is) in (
        f.start_is ∙ (ap (λ (z : ℕ). edge_start (fan_facet fan z) f.opposite) i
            ∙ (ap (λ (z : ℕ). edge_start (fan_facet fan g.facet) z) e ∙ sym g.start_is)),
        f.end_is ∙ (ap (λ (z : ℕ). edge_end (fan_facet fan z) f.opposite) i
            ∙ (ap (λ (z : ℕ). edge_end (fan_facet fan g.facet) z) e ∙ sym g.end_is)),
      );
  live = λ x h.
      let f = from x h in
      let l : f.facet < length ids = (let m = f.facet_in in omega arith) in
      subst (λ (z : ℕ). IsLive b z) (sym f.cell_is)
      (named.live (slice_index ids f.facet) ∙ put_live s0 s1 fan p ids put f.facet l);
  small = λ x h.
      let f = from x h in
      subst (λ (z : ℕ). z + 1 < 2 ^ 32) (sym f.cell_is) (put.small f.facet (let m = f.facet_in in omega arith));
  side_in = λ x h. let f = from x h in let e = f.side_is in let l = f.opposite_in in omega arith;
}
  where
    from : (x : Edge) → Contains sorted x → IsFanEdge fan ids x
    from x h = fan_from fan ids edges fe x (Contains-permutation sorted edges x (IsPermutation-sym edges sorted moved) h)

    at_from : (m : ℕ) → m < length sorted → IsFanEdge fan ids (edge_at sorted m)
    at_from m l = from (edge_at sorted m) (Contains-get_or sorted m no_edge l)

    some : (m : ℕ) → m < length sorted → HasPair sorted m
    some m l =
        let f = at_from m l in
        let g = can.edges.turned f.facet f.opposite f.facet_in f.opposite_in in
        let y = edge_of fan ids g.facet g.opposite in
        let c =
        Contains-permutation edges sorted y moved (fan_to fan ids edges fe g.facet g.opposite g.facet_in g.opposite_in) in
        let is : edge_at sorted c.0 ≡ y = get_or_default sorted c.0 no_edge y c.1 ∙ c.2 in
        record {
          place = c.0;
          place_in = c.1;
          other = λ same.
              let x_is : edge_at sorted m ≡ y = ap (λ (z : ℕ). edge_at sorted z) (sym same) ∙ is in
              can.ends f.facet f.opposite f.facet_in (sym f.start_is ∙ (ap (λ (z : Edge). z.start) x_is ∙ g.start_is));
          reverse =
              subst (λ (z : Edge). IsReverse (edge_at sorted m) z) (sym is)
              (record { start_is = g.start_is ∙ sym f.end_is; end_is = g.end_is ∙ sym f.start_is });
        }

    distinct : IsDistinct same_place sorted
    distinct =
        IsDistinct-IsPermutation same_place same_place_flips edges sorted moved
        (fan_distinct fan ids edges fe (λ i j l m e. put.distinct i j (omega arith) (omega arith) e))

    twice : (m q : ℕ) → m < length sorted → q < length sorted → m ≢ q → same_place (edge_at sorted m) (edge_at sorted q) ≡ true
        → ⊥
    twice m q l k ne t = elim (cases_lt m q) [
      | inl less ↦ false≢true (sym (apart_from_distinct same_place sorted m q no_edge distinct less k) ∙ t)
      | inr more ↦
          false≢true
          (sym (apart_from_distinct same_place sorted q m no_edge distinct (omega arith) l)
          ∙ (same_place_flips (edge_at sorted q) (edge_at sorted m) ∙ t))
    ]

    only : (m q : ℕ) → m < length sorted → q < length sorted → m ≢ q → key_of_edge (edge_at sorted m) ≡ key_of_edge (edge_at sorted q)
        → IsReverse (edge_at sorted m) (edge_at sorted q)
    only m q l k ne e =
        let x = edge_at sorted m in
        let y = edge_at sorted q in
        let f = at_from m l in
        let g = at_from q k in
        let lf = can.fits f.facet f.opposite f.facet_in in
        let lg = can.fits g.facet g.opposite g.facet_in in
        let fs = f.start_is in
        let fe' = f.end_is in
        let gs = g.start_is in
        let ge = g.end_is in
        elim (ends_of x.start x.end y.start y.end (omega (arith, lf.0)) (omega (arith, lf.1)) (omega (arith, lg.0))
        (omega (arith, lg.1)) e) [
          | inr r ↦ record { start_is = r.0; end_is = r.1 }
          | inl r ↦
              let i : f.facet ≡ g.facet =
              can.edges.once f.facet f.opposite g.facet g.opposite f.facet_in f.opposite_in g.facet_in g.opposite_in
              (sym fs ∙ (r.0 ∙ gs)) (sym fe' ∙ (r.1 ∙ ge)) in
              let starts : edge_start (fan_facet fan g.facet) f.opposite ≡ edge_start (fan_facet fan g.facet) g.opposite =
              subst (λ (z : ℕ). edge_start (fan_facet fan z) f.opposite ≡ edge_start (fan_facet fan g.facet) g.opposite) i
              (sym fs ∙ (r.0 ∙ gs)) in
              let o : f.opposite ≡ g.opposite =
              can.apart g.facet f.opposite g.opposite g.facet_in f.opposite_in g.opposite_in starts in
              let cells : x.cell ≡ y.cell = f.cell_is ∙ (ap (λ (z : ℕ). slice_index ids z) i ∙ sym g.cell_is) in
              let sides : x.side ≡ y.side = f.side_is ∙ (o ∙ sym g.side_is) in
              absurd (twice m q l k ne
              (and_from (x.cell == y.cell) (x.side == y.side) (eq-eqb x.cell y.cell cells) (eq-eqb x.side y.side sides)))
        ]

module _ (s0 s1 : List (Option Cell)) (b d : Links) (fan : List Facet) (p : ℕ) (ids : List ℕ) (edges sorted : List Edge)
    (put : ArePut s0 s1 (new_cell fan p) ids) (n : length ids ≡ length fan)
    (named : AreNamed (links_of s1) b fan ids (length fan)) (fe : AreFanEdges fan ids edges (length fan))
    (moved : IsPermutation edges sorted) (joined : AreJoined b d sorted (length sorted))
    (can : CanGrow (links_of s0) fan) where
  from : (x : Edge) → Contains sorted x → IsFanEdge fan ids x
  from x h = fan_from fan ids edges fe x (Contains-permutation sorted edges x (IsPermutation-sym edges sorted moved) h)

  listed : (i : ℕ) → i < length fan → Contains ids (slice_index ids i)
  listed i l = Contains-get_or ids i 0 (omega arith)

  at_is : (x : ℕ) → IsLive (links_of s0) x → (links_of s1).at x ≡ (links_of s0).at x
  at_is x live = ap (λ (o : Option Cell). vertices_in o) (put_stays s0 s1 fan p ids put x live)

  -- a cell that was live is that of no edge
  not_edge : (x : ℕ) → IsLive (links_of s0) x → (k : ℕ) → d.next x k ≡ b.next x k
  not_edge x live k = joined.others x k (λ e h c s.
      let f = from e h in
      put_fresh s0 s1 fan p ids put x (subst (λ (z : ℕ). Contains ids z) (sym f.cell_is ∙ c) (listed f.facet f.facet_in)) live)

  outer_side : (i : ℕ) → i < length fan → d.next (slice_index ids i) 3 ≡ fan_outer fan i
  outer_side i l =
      let one : d.next (slice_index ids i) 3 ≡ b.next (slice_index ids i) 3 = joined.others (slice_index ids i) 3 (λ e h c s.
      let f = from e h in let side = f.side_is in let low = f.opposite_in in absurd (omega arith)) in
      let was : (links_of s1).next (slice_index ids i) 3 ≡ fan_outer fan i =
      ap (λ (o : Option Cell). next_in o 3) (put.put i (omega arith)) in
      elim (named.kept (slice_index ids i) 3) [
        | inl e ↦ one ∙ (e ∙ was)
        | inr r ↦
            absurd (put_fresh s0 s1 fan p ids put (slice_index ids i) (listed i l)
            (can.facing.live r.facet (slice_index ids i) r.facet_in r.outer))
      ]

  named_again : (i y : ℕ) → i < length fan → fan_outer fan i ≡ Some y → IsNamed (links_of s0) d fan ids i y
  named_again i y l e =
      let g = named.named i y l e in
      let live = can.facing.live i y l e in
      record {
        side = g.side;
        side_in = g.side_in;
        turned = subst (λ (t : Tetrahedron). IsTurned (fan_facet fan i) (facet_of t g.side)) (at_is y live) g.turned;
        named = not_edge y live g.side ∙ g.named;
      }

  kept_again : (x k : ℕ) → IsLive (links_of s0) x
      → (d.next x k ≡ (links_of s0).next x k) ⊎ IsRenamed (links_of s0) d fan ids x k
  kept_again x k live = elim (named.kept x k) [
    | inl e ↦ inl (not_edge x live k ∙ (e ∙ ap (λ (o : Option Cell). next_in o k) (put_stays s0 s1 fan p ids put x live)))
    | inr r ↦ inr (record {
      facet = r.facet;
      facet_in = r.facet_in;
      outer = r.outer;
      turned = subst (λ (t : Tetrahedron). IsTurned (fan_facet fan r.facet) (facet_of t k)) (at_is x live) r.turned;
      named = not_edge x live k ∙ r.named;
    })
  ]

  mated : (i e : ℕ) → i < length fan → e < 3 → IsMated d fan ids i e
  mated i e l m =
      let x = edge_of fan ids i e in
      let h = Contains-permutation edges sorted x moved (fan_to fan ids edges fe i e l m) in
      let j = joined.joined h.0 x h.1 h.2 h.1 in
      let r = j.reverse in
      let f = from r.reverse r.listed in
      record {
        mate = f.facet;
        side = f.opposite;
        mate_in = f.facet_in;
        side_in = f.opposite_in;
        start_is = sym f.start_is ∙ r.start_is;
        end_is = sym f.end_is ∙ r.end_is;
        named = j.named ∙ ap (λ (z : ℕ). Some z) f.cell_is;
      }

  was_live : (x : ℕ) → IsLive d x → IsLive (links_of s0) x ⊎ ((i : ℕ) × (i < length fan) × (slice_index ids i ≡ x))
  was_live x live =
      let one : IsLive (links_of s1) x = sym (joined.live x ∙ named.live x) ∙ live in
      elim (put.kept x) [
        | inl e ↦ inl (ap (λ (o : Option Cell). is_some o) (sym e) ∙ one)
        | inr h ↦ let k = place_in ids x h in inr (k.0, (let l = k.1 in omega arith), k.2)
      ]

  pub all_grown : IsGrown (links_of s0) d fan p ids
  all_grown = record {
    fresh = put_fresh s0 s1 fan p ids put;
    stays =
        λ x live. joined.live x
        ∙ (named.live x ∙ (ap (λ (o : Option Cell). is_some o) (put_stays s0 s1 fan p ids put x live) ∙ live));
    same = λ x live. joined.same x ∙ (named.same x ∙ at_is x live);
    made =
        λ i l. joined.live (slice_index ids i)
        ∙ (named.live (slice_index ids i) ∙ put_live s0 s1 fan p ids put i (omega arith));
    made_at =
        λ i l. joined.same (slice_index ids i)
        ∙ (named.same (slice_index ids i) ∙ ap (λ (o : Option Cell). vertices_in o) (put.put i (omega arith)));
    only = was_live;
    outer = outer_side;
    named = named_again;
    kept = kept_again;
    inner = mated;
  }
