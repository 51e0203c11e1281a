-- Steps of listing and of joining edges.
--
-- In the order of keys the reverse of an edge stands next to it. For let it stand after it, at q: the key at the next place is
-- between two that are equal, so it is that key too, and two edges with one key are each other's reverse. The same if it stands
-- before.
use Rattle.std.proofs.Common.{ℕ, zero, suc, Bool, true, ◌&&◌, ◌==◌, min, max, ◌≡◌, ◌<◌, ◌+◌, ◌-◌, ◌*◌, ◌/◌, ◌%◌, ◌^◌}
use Rattle.std.proofs.Common.{◌⊎◌, List, [], ◌∷◌, ◌++◌, length, Some, refl, sym, ap, ◌∙◌, inl, inr, subst, arith, slice_index}
use Rattle.std.proofs.Common.{slice_index_or}
use Rattle.std.specs.List.{Contains, IsDistinct}
use Rattle.std.proofs.lemmas.Bool.{cases_lt, eqb-true, and_parts, false_from_ne_true, ne_eqb}
use Rattle.std.proofs.lemmas.Map.Keys.{IsDistinct-from_apart}
use Rattle.std.proofs.lemmas.List.{get_or_append_left, get_or_at, get_or_default, length_push}
use Rattle.tetra_store.specs.declared.fan.Facet.{Facet}
use Rattle.tetra_store.specs.declared.edge.Edge.{Edge}
use Rattle.tetra_store.specs.Links.{Links}
use Rattle.tetra_store.specs.Edges.{edge_key, key_of_edge, no_edge, edge_at, AreByKey, IsReverse, ArePairs}
use Rattle.tetra_store.specs.Fan.{no_facet}
use Rattle.tetra_store.specs.Steps.{IsSideWritten, IsFanEdge, edge_of, AreFanEdges, IsJoinedAt, AreJoined, CanJoinEdges}
use Rattle.tetra_store.proofs.Putting.{here_or_not}
use Rattle.tetra_store.proofs.Keeps.{read_at}

module _ (fan : List Facet) (ids : List ℕ) (xs : List Edge) (i : ℕ) (h : AreFanEdges fan ids xs i) where
  abbrev ys : List Edge
  ys = xs ++ edge_of fan ids i 0 ∷ []

  abbrev zs : List Edge
  zs = ys ++ edge_of fan ids i 1 ∷ []

  abbrev all : List Edge
  all = zs ++ edge_of fan ids i 2 ∷ []

  ys_length : length ys ≡ 3 * i + 1
  ys_length = let n = h.count in let l = length_push xs (edge_of fan ids i 0) in omega arith

  zs_length : length zs ≡ 3 * i + 2
  zs_length = let n = ys_length in let l = length_push ys (edge_of fan ids i 1) in omega arith

  before : (m : ℕ) → m < 3 * i → edge_at all m ≡ edge_at xs m
  before m l =
      let n = h.count in
      let n1 = ys_length in
      let n2 = zs_length in
      get_or_append_left zs (edge_of fan ids i 2 ∷ []) no_edge m (omega arith)
      ∙ (get_or_append_left ys (edge_of fan ids i 1 ∷ []) no_edge m (omega arith)
      ∙ get_or_append_left xs (edge_of fan ids i 0 ∷ []) no_edge m (omega arith))

  last : (e : ℕ) → e < 3 → edge_at all (3 * i + e) ≡ edge_of fan ids i e
  last zero l =
      let n = h.count in
      let n1 = ys_length in
      let n2 = zs_length in
      get_or_append_left zs (edge_of fan ids i 2 ∷ []) no_edge (3 * i + 0) (omega arith)
      ∙ (get_or_append_left ys (edge_of fan ids i 1 ∷ []) no_edge (3 * i + 0) (omega arith)
      ∙ get_or_at xs (edge_of fan ids i 0) [] no_edge (3 * i + 0) (omega arith))
  last (suc zero) l =
      let n1 = ys_length in
      let n2 = zs_length in
      get_or_append_left zs (edge_of fan ids i 2 ∷ []) no_edge (3 * i + 1) (omega arith)
      ∙ get_or_at ys (edge_of fan ids i 1) [] no_edge (3 * i + 1) (omega arith)
  last (suc (suc zero)) l = let n2 = zs_length in get_or_at zs (edge_of fan ids i 2) [] no_edge (3 * i + 2) (omega arith)
  last (suc (suc (suc e))) l = absurd (omega arith)

  pub AreFanEdges_push : AreFanEdges fan ids all (i + 1)
  AreFanEdges_push = record {
    count = let n = zs_length in let l = length_push zs (edge_of fan ids i 2) in omega arith;
    at = λ j e l m. elim (cases_lt j i) [
      | inl less ↦ before (3 * j + e) (omega arith) ∙ h.at j e less m
      | inr more ↦ let s : i ≡ j = omega arith in subst (λ (t : ℕ). edge_at all (3 * t + e) ≡ edge_of fan ids t e) s (last e m)
    ];
  }

-- ---- joining

module _ (a m b : Links) (edges : List Edge) (n : ℕ) (x r : Edge) (h : AreJoined a m edges n) (can : CanJoinEdges a edges)
    (l : n < length edges) (is : slice_index_or edges n x ≡ x)
    (listed : Contains edges r) (rev : IsReverse x r) (w : IsSideWritten m b x.cell x.side r.cell) where
  here : Contains edges x
  here = (n, l, is)

  joined_here : (y : Edge) → y.start ≡ x.start → y.end ≡ x.end → y.cell ≡ x.cell → y.side ≡ x.side → IsJoinedAt b edges y
  joined_here y s e c d = record {
    reverse = record { reverse = r; listed = listed; start_is = rev.start_is ∙ sym e; end_is = rev.end_is ∙ sym s };
    named =
        subst (λ (z : ℕ). b.next z y.side ≡ Some r.cell) (sym c)
        (subst (λ (z : ℕ). b.next x.cell z ≡ Some r.cell) (sym d) w.here);
  }

  still_joined : (j : ℕ) (y : Edge) → slice_index_or edges j y ≡ y → j < length edges → IsJoinedAt m edges y
      → IsJoinedAt b edges y
  still_joined j y e k g = elim (here_or_not y.cell y.side x.cell x.side) [
    | inl same ↦ let o = can.once y x (j, k, e) here same.0 same.1 in joined_here y o.0 o.1 same.0 same.1
    | inr apart ↦ record { reverse = g.reverse; named = w.others y.cell y.side apart ∙ g.named }
  ]

  pub AreJoined_join : AreJoined a b edges (n + 1)
  AreJoined_join = record {
    live = λ z. w.live z ∙ h.live z;
    same = λ z. w.same z ∙ h.same z;
    joined = λ j y less e k. elim (cases_lt j n) [
      | inl before ↦ still_joined j y e k (h.joined j y before e k)
      | inr more ↦
          let s : j ≡ n = omega arith in
          let e' : slice_index_or edges n y ≡ y = subst (λ (t : ℕ). slice_index_or edges t y ≡ y) s e in
          let y_is : y ≡ x = sym e' ∙ (get_or_default edges n y x l ∙ is) in
          joined_here y (ap (λ (z : Edge). z.start) y_is) (ap (λ (z : Edge). z.end) y_is) (ap (λ (z : Edge). z.cell) y_is)
          (ap (λ (z : Edge). z.side) y_is)
    ];
    others = λ y k none. elim (here_or_not y k x.cell x.side) [
      | inl same ↦ absurd (none x here (sym same.0) (sym same.1))
      | inr apart ↦ w.others y k apart ∙ h.others y k none
    ];
  }

-- ---- the reverse is next

key_of_reverse : (x y : Edge) → IsReverse x y → key_of_edge y ≡ key_of_edge x
key_of_reverse x y r = grind arith

module _ (edges : List Edge) (sorted : AreByKey edges) (pairs : ArePairs edges) (at : ℕ) (l : at < length edges) where
  -- where the reverse comes later, the next is one
  after : (q : ℕ) → q < length edges → at < q → key_of_edge (edge_at edges q) ≡ key_of_edge (edge_at edges at)
      → (at + 1 < length edges) × IsReverse (edge_at edges at) (edge_at edges (at + 1))
  after q m less e =
      let a = sorted at (at + 1) no_edge (omega arith) (omega arith) in
      let b = sorted (at + 1) q no_edge (omega arith) m in
      (omega arith, pairs.only at (at + 1) l (omega arith) (λ z. absurd (omega arith)) (omega arith))

  -- where it comes earlier, the one before is one
  before_it : (q : ℕ) → q < at → key_of_edge (edge_at edges q) ≡ key_of_edge (edge_at edges at)
      → (0 < at) × IsReverse (edge_at edges at) (edge_at edges (at - 1))
  before_it q less e =
      let a = sorted q (at - 1) no_edge (omega arith) (omega arith) in
      let b = sorted (at - 1) at no_edge (omega arith) l in
      (omega arith, pairs.only at (at - 1) l (omega arith) (λ z. absurd (omega arith)) (omega arith))

  pub next_or_last : ((at + 1 < length edges) × IsReverse (edge_at edges at) (edge_at edges (at + 1)))
      ⊎ ((0 < at) × IsReverse (edge_at edges at) (edge_at edges (at - 1)))
  next_or_last =
      let p = pairs.some at l in
      let e = key_of_reverse (edge_at edges at) (edge_at edges p.place) p.reverse in
      elim (cases_lt p.place at) [
        | inl less ↦ inr (before_it p.place less e)
        | inr more ↦ let ne = p.other in inl (after p.place p.place_in (omega arith) e)
      ]

  pub is_last : ((at + 1 < length edges) → IsReverse (edge_at edges at) (edge_at edges (at + 1)) → ⊥)
      → (0 < at) × IsReverse (edge_at edges at) (edge_at edges (at - 1))
  is_last none = elim next_or_last [
    | inl h ↦ absurd (none h.0 h.1)
    | inr h ↦ h
  ]

-- ---- what is pushed

edge_same : (s e c t f d k : ℕ) → s ≡ t → e ≡ f → c ≡ d
    → (let x : Edge = record { start = s; end = e; cell = c; side = k } in x)
    ≡ (let y : Edge = record { start = t; end = f; cell = d; side = k } in y)
edge_same s e c t f d k a b g = grind arith

pub edge_read : (fan : List Facet) (ids : List ℕ) (i e j k cell : ℕ) (d g : Facet) → i < length fan → cell ≡ slice_index ids i
    → edge_of fan ids i e ≡ record {
      start = slice_index (slice_index_or fan i no_facet).v j;
      end = slice_index (slice_index_or fan i no_facet).v k;
      cell = slice_index ids i;
      side = e;
    }
    → (let x : Edge = record {
      start = slice_index (slice_index_or fan i d).v j;
      end = slice_index (slice_index_or fan i g).v k;
      cell = cell;
      side = e;
    } in
    x) ≡ edge_of fan ids i e
edge_read fan ids i e j k cell d g l c is = grind (arith, edge_same, read_at)

pub record IsPushed (xs ys : List Edge) (a b c : Edge) : Type 0 where
  pub one : List Edge
  pub two : List Edge
  pub one_is : one ≡ xs ++ a ∷ []
  pub two_is : two ≡ one ++ b ∷ []
  pub is : ys ≡ two ++ c ∷ []

pub pushed_all : (xs ys : List Edge) (a b c : Edge) → IsPushed xs ys a b c → ys ≡ ((xs ++ a ∷ []) ++ b ∷ []) ++ c ∷ []
pushed_all xs news a b c h =
    h.is ∙ ap (λ (z : List Edge). z ++ c ∷ []) (h.two_is ∙ ap (λ (z : List Edge). z ++ b ∷ []) h.one_is)

pub AreFanEdges_pushed : (fan : List Facet) (ids : List ℕ) (xs ys : List Edge) (i : ℕ) (a b c : Edge) → AreFanEdges fan ids xs i
    → i < length fan → IsPushed xs ys a b c
    → a ≡ edge_of fan ids i 0 → b ≡ edge_of fan ids i 1 → c ≡ edge_of fan ids i 2 → AreFanEdges fan ids ys (i + 1)
AreFanEdges_pushed fan ids xs news i a b c h l p e f g =
    let is = pushed_all xs news a b c p ∙ (ap (λ (z : Edge). ((xs ++ z ∷ []) ++ b ∷ []) ++ c ∷ []) e
    ∙ (ap (λ (z : Edge). ((xs ++ edge_of fan ids i 0 ∷ []) ++ z ∷ []) ++ c ∷ []) f
    ∙ ap (λ (z : Edge). ((xs ++ edge_of fan ids i 0 ∷ []) ++ edge_of fan ids i 1 ∷ []) ++ z ∷ []) g)) in
    subst (λ (z : List Edge). AreFanEdges fan ids z (i + 1)) (sym is) (AreFanEdges_push fan ids xs i h)

pub pushed_length : (xs ys : List Edge) (a b c : Edge) → IsPushed xs ys a b c → length ys ≡ length xs + 3
pushed_length xs news a b c p =
    omega (
      arith,
      ap length (pushed_all xs news a b c p),
      length_push ((xs ++ a ∷ []) ++ b ∷ []) c,
      length_push (xs ++ a ∷ []) b,
      length_push xs a,
    )

-- ---- each edge of the list is the fan's, and each of the fan's is in the list

pub edge_from : (fan : List Facet) (ids : List ℕ) (edges : List Edge) → AreFanEdges fan ids edges (length fan) → (m : ℕ)
    → m < length edges → edge_at edges m ≡ edge_of fan ids (m / 3) (m % 3)
edge_from fan ids edges h m l = grind arith

pub fan_from : (fan : List Facet) (ids : List ℕ) (edges : List Edge) → AreFanEdges fan ids edges (length fan) → (x : Edge)
    → Contains edges x → IsFanEdge fan ids x
fan_from fan ids edges h x c =
    let n = h.count in
    let m = c.0 in
    let l : m < length edges = c.1 in
    let e : edge_of fan ids (m / 3) (m % 3) ≡ x =
    sym (edge_from fan ids edges h m l) ∙ (get_or_default edges m no_edge x l ∙ c.2) in
    subst (λ (z : Edge). IsFanEdge fan ids z) e
    (record {
      facet = m / 3;
      opposite = m % 3;
      facet_in = omega arith;
      opposite_in = omega arith;
      start_is = refl;
      end_is = refl;
      cell_is = refl;
      side_is = refl;
    })

pub fan_to : (fan : List Facet) (ids : List ℕ) (edges : List Edge) → AreFanEdges fan ids edges (length fan) → (i e : ℕ)
    → i < length fan → e < 3 → Contains edges (edge_of fan ids i e)
fan_to fan ids edges h i e l m =
    let n = h.count in
    let k : 3 * i + e < length edges = omega arith in
    (3 * i + e, k, get_or_default edges (3 * i + e) (edge_of fan ids i e) no_edge k ∙ h.at i e l m)

-- ---- no edge twice

abbrev pub same_place : Edge → Edge → Bool
same_place x y = (x.cell == y.cell) && (x.side == y.side)

pub same_place_flips : (x y : Edge) → same_place x y ≡ same_place y x
same_place_flips x y = grind (arith, ne_eqb)

pub fan_distinct : (fan : List Facet) (ids : List ℕ) (edges : List Edge) → AreFanEdges fan ids edges (length fan)
    → ((i j : ℕ) → i < length fan → j < length fan → slice_index ids i ≡ slice_index ids j → i ≡ j)
    → IsDistinct same_place edges
fan_distinct fan ids edges h one =
    IsDistinct-from_apart same_place edges
    (λ m q d less l. false_from_ne_true (same_place (slice_index_or edges m d) (slice_index_or edges q d)) (λ t.
    let n = h.count in
    let x : slice_index_or edges m d ≡ edge_of fan ids (m / 3) (m % 3) =
    get_or_default edges m d no_edge (omega arith) ∙ edge_from fan ids edges h m (omega arith) in
    let y : slice_index_or edges q d ≡ edge_of fan ids (q / 3) (q % 3) =
    get_or_default edges q d no_edge l ∙ edge_from fan ids edges h q l in
    let t1 = subst (λ (z : Edge). same_place z (slice_index_or edges q d) ≡ true) x t in
    let t2 = subst (λ (z : Edge). same_place (edge_of fan ids (m / 3) (m % 3)) z ≡ true) y t1 in
    let both = and_parts (slice_index ids (m / 3) == slice_index ids (q / 3)) (m % 3 == q % 3) t2 in
    let c = eqb-true (slice_index ids (m / 3)) (slice_index ids (q / 3)) both.0 in
    let s = eqb-true (m % 3) (q % 3) both.1 in
    let i : m / 3 ≡ q / 3 = one (m / 3) (q / 3) (omega arith) (omega arith) c in
    omega arith))

-- two edges with one key have the same ends, in one order or the other
pub ends_of : (s e t f : ℕ) → s < 2 ^ 32 → e < 2 ^ 32 → t < 2 ^ 32 → f < 2 ^ 32
    → edge_key (min s e) (max s e) ≡ edge_key (min t f) (max t f) → ((s ≡ t) × (e ≡ f)) ⊎ ((t ≡ e) × (f ≡ s))
ends_of s e t f ls le lt lf h = grind arith
