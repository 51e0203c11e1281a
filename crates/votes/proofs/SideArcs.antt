-- What the tables give are the arcs of the network. A cell is searched for by a facet that it alone has, so what the search finds is
-- the index that the table of nodes has; and so for facets and the table of arcs.
-- Stands on: Nodes.
use Rattle.std.proofs.Common.{ℕ, ◌+◌, ◌*◌, ◌<◌, ◌≤◌, ◌^◌, ◌≡◌, ◌≢◌, refl, sym, ap, subst, ◌∙◌, arith, Bool, true, false}
use Rattle.std.proofs.Common.{true≢false, cond, Option, Some, None, List, [], length, get_or, map, unwrap_or}
use Rattle.std.specs.List.Sorted.{IsPermutation}
use Rattle.std.proofs.lemmas.Bool.{false_from_ne_true}
use Rattle.std.proofs.lemmas.List.{get_or-map, length-map, same_lists}
use Rattle.std.proofs.lemmas.List.Sums.{position_or_len_is}
use Rattle.geo_sign.proofs.Among.{same_itself, same_means}
use Rattle.flow_net.specs.Nets.{flag_at}
use Rattle.flow_net.specs.declared.Arc.{Arc}
use Rattle.geo_sign.specs.Tetrahedron.{Tetrahedron, DirectedFacet, facet_of, facet_at, turned, is_same_facet}
use Rattle.visibility.specs.Scenes.{Scene}
use Rattle.visibility.specs.Complexes.{cell_index, Complex}
use Rattle.visibility.specs.Votes.{capacity}
use Rattle.plain_net.specs.Networks.{facet_index, arc_of}
use Rattle.tetra_store.specs.declared.link.Cell.{Cell}
use Rattle.tetra_store.specs.Links.{links_of, IsLive}
use Rattle.tetra_store.specs.Stored.{live_of}
use Rattle.cell_net.specs.declared.rows.Row.{Row}
use Rattle.cell_net.specs.declared.sides.Side.{Side}
use Rattle.cell_net.specs.CellRows.{least_first, facet_row}
use Rattle.cell_net.specs.Counts.{AreCellsOf, AreFixed, AreCrossingCounts}
use Rattle.cell_net.specs.Gathered.{all_rows, all_open}
use Rattle.cell_net.specs.Parts.{id_of_row, cell_of_row, facet_of_side, number_of_side, AreDistinctBy}
use Rattle.cell_net.proofs.CellRows.{least_rotated}
use Rattle.cell_net.proofs.CellSides.{one_side_of, across_has, has_across}
use Rattle.cell_net.proofs.Entries.{IsSideAt, side_there}
use Rattle.cell_net.proofs.Nodes as made
use Rattle.cell_net.proofs.Nodes.{no_row, no_side}
use Rattle.cell_net.proofs.Stored.{listed, live}
use Rattle.votes.specs.Tables.{AreNumbered, side_with, other_of, arc_from}

-- the side that the code finds
side_with_is : (t : Tetrahedron) (f : DirectedFacet) (m : ℕ) → m < 4 → least_first (facet_of t m) ≡ f
    → ((k : ℕ) → k < 4 → least_first (facet_of t k) ≡ f → k ≡ m) → side_with t f ≡ m
unfolding side_with
side_with_is t f m l e one =
    by (is_same_facet (least_first (facet_of t 0)) f) (is_same_facet (least_first (facet_of t 1)) f)
    (is_same_facet (least_first (facet_of t 2)) f) refl refl refl
  where
    itself : (k : ℕ) → k ≡ m → is_same_facet (least_first (facet_of t k)) f ≡ true
    itself k h =
        subst (λ (g : DirectedFacet). is_same_facet (least_first (facet_of t k)) g ≡ true)
        (ap (λ (i : ℕ). least_first (facet_of t i)) h ∙ e) (same_itself (least_first (facet_of t k)))

    found : (k : ℕ) → k < 4 → is_same_facet (least_first (facet_of t k)) f ≡ true → k ≡ m
    found k h i = one k h (same_means (least_first (facet_of t k)) f i)

    not_here : (k : ℕ) → is_same_facet (least_first (facet_of t k)) f ≡ false → k ≢ m
    not_here k i h = absurd (true≢false (sym (itself k h) ∙ i))

    by : (a b c : Bool) → is_same_facet (least_first (facet_of t 0)) f ≡ a → is_same_facet (least_first (facet_of t 1)) f ≡ b
        → is_same_facet (least_first (facet_of t 2)) f ≡ c → cond a 0 (cond b 1 (cond c 2 3)) ≡ m
    by true b c x y z = found 0 (omega arith) x
    by false true c x y z = found 1 (omega arith) y
    by false false true x y z = found 2 (omega arith) z
    by false false false x y z =
        let n0 = not_here 0 x in let n1 = not_here 1 y in let n2 = not_here 2 z in omega (arith, l, n0, n1, n2)

same_arc : {a b c d m n : ℕ} {o q : Option ℕ} → a ≡ b → c ≡ d → m ≡ n → o ≡ q
    → (let x : Arc = record { from = a; to = c; cap = m; pair = o } in x) ≡ record { from = b; to = d; cap = n; pair = q }
same_arc e g h i = cc

module _ (s : Scene) (slots : List (Option Cell)) (fixed : List Bool) (cells : AreCellsOf s slots) (few : s.vertices.count ≤ 2 ^ 32)
    (rows : List Row) (moved : IsPermutation (all_rows slots) rows) (flags : AreFixed s slots fixed) (sides : List Side)
    (moved_sides : IsPermutation (all_open fixed slots) sides) where
  abbrev cell : ℕ → Tetrahedron
  cell = (links_of slots).at

  abbrev next : ℕ → ℕ → Option ℕ
  next = (links_of slots).next

  abbrev facet_at_side : ℕ → ℕ → DirectedFacet
  facet_at_side x k = least_first (facet_of (cell x) k)

  abbrev complex_cells : List (List ℕ)
  complex_cells = map cell_of_row rows

  abbrev complex_facets : List (List ℕ)
  complex_facets = map facet_of_side sides

  abbrev complex : Complex
  complex = record { cells = complex_cells; facets = complex_facets }

  at_sides : (i : ℕ) (d : Side) → i < length sides → IsSideAt slots fixed (get_or sides i d)
  at_sides i d l = made.side_at_is s slots fixed cells few rows moved flags sides moved_sides i d l

  apart_sides : AreDistinctBy number_of_side sides
  apart_sides = made.sides_are_apart s slots fixed cells few rows moved flags sides moved_sides

  here : (i : ℕ) (d : List ℕ) → i < length sides → get_or complex_facets i d ≡ (get_or sides i no_side).facet
  here i d l = made.facet_here s slots fixed cells few rows moved flags sides moved_sides i d l

  facet_index_is : (j : ℕ) → j < length sides → facet_index complex_facets (facet_at (get_or sides j no_side).facet) ≡ j
  facet_index_is j l =
      let f : DirectedFacet = facet_at (get_or sides j no_side).facet in
      let n = length-map sides facet_of_side in
      position_or_len_is (λ numbers. is_same_facet (facet_at numbers) f) complex_facets j [] (omega (arith, l, n))
      (λ m lm. false_from_ne_true (is_same_facet (facet_at (get_or complex_facets m [])) f) (λ e.
      let bm : m < length sides = omega (arith, lm, l) in
      let same : m ≡ j =
      made.one_index s slots fixed cells few sides at_sides apart_sides m j bm l
      (sym (ap (λ (r : List ℕ). facet_at r) (here m [] bm))
      ∙ same_means (facet_at (get_or complex_facets m [])) f e) in
      omega (arith, lm, same)))
      (λ _. subst (λ (r : List ℕ). is_same_facet (facet_at r) f ≡ true) (sym (here j [] l)) (same_itself f))

  module _ (nodes numbers crossed : List ℕ) (are_nodes : AreNumbered id_of_row rows nodes)
      (are_numbers : AreNumbered number_of_side sides numbers) (counts : AreCrossingCounts s slots crossed) where
    node_number : (x k : ℕ) → IsLive (links_of slots) x → k < 4
        → get_or nodes x 0 ≡ cell_index s.vertices complex_cells (facet_at_side x k)
    node_number x k h l =
        let p = made.node s slots fixed cells few rows moved x h in
        sym (ap (λ (n : ℕ). get_or nodes n 0) (p.1.is no_row)) ∙ are_nodes p.0 no_row p.1.below ∙ sym
        (made.index_is s slots fixed cells few rows moved x k p.0 h l p.1)

    -- the reverse of an arc that leaves a free cell
    reverse_is : (x k y : ℕ) → IsLive (links_of slots) x → k < 4 → next x k ≡ Some y → flag_at fixed x ≡ false
        → get_or numbers (4 * y + side_with (cell y) (turned (facet_at_side x k))) 0 ≡ facet_index complex_facets
        (turned (facet_at_side x k))
    reverse_is x k y h l n free =
        let f : DirectedFacet = facet_at_side x k in
        let b = across_has s.vertices (live_of slots) cell next cells x k y (listed slots x h) l n in
        let ly = live slots y b.0 in
        let m : ℕ = b.1.0 in
        let lm : m < 4 = b.1.1 in
        let e : facet_at_side y m ≡ turned f = b.1.2 in
        let w : side_with (cell y) (turned f) ≡ m =
        side_with_is (cell y) (turned f) m lm e
        (λ i li g. one_side_of s.vertices (live_of slots) cell next cells y i m b.0 li lm (g ∙ sym e)) in
        let back : next y m ≡ Some x =
        has_across s.vertices (live_of slots) cell next cells y m x k b.0 (listed slots x h) lm l
        (sym (ap (λ (g : DirectedFacet). turned g) e)) in
        let z = side_there slots fixed y m x lm back free in
        let p = made.side_in s slots fixed cells few rows moved flags sides moved_sides z.0 z.1 in
        let j : ℕ = p.0 in
        let there : get_or sides j no_side ≡ z.0 = p.1.is no_side in
        let id : (get_or sides j no_side).id ≡ y = ap (λ (q : Side). q.id) there ∙ z.2 in
        let side : (get_or sides j no_side).side ≡ m = ap (λ (q : Side). q.side) there ∙ z.3 in
        let facet_is : facet_at (get_or sides j no_side).facet ≡ turned f =
        ap (λ (r : List ℕ). facet_at r) (at_sides j no_side p.1.below).is ∙ ap
        (λ (i : ℕ). facet_at_side i (get_or sides j no_side).side) id ∙ ap (λ (i : ℕ). facet_at_side y i) side ∙ e in
        let number_is : number_of_side (get_or sides j no_side) ≡ 4 * y + side_with (cell y) (turned f) =
        omega (arith, id, side, w) in
        sym (ap (λ (i : ℕ). get_or numbers i 0) number_is) ∙ are_numbers j no_side p.1.below ∙ sym
        (ap (λ (g : DirectedFacet). facet_index complex_facets g) (sym facet_is) ∙ facet_index_is j p.1.below)

    arc_side : (x : Side) → IsSideAt slots fixed x
        → arc_from slots nodes numbers crossed fixed s.settings x ≡ arc_of s complex (facet_row (cell x.id) x.side)
    unfolding arc_from arc_of
    arc_side x p =
        let f : DirectedFacet = facet_at_side x.id x.side in
        let b =
        across_has s.vertices (live_of slots) cell next cells x.id x.side p.other
        (listed slots x.id p.live) p.in_range p.next in
        let ly = live slots p.other b.0 in
        let other : other_of slots x ≡ p.other = ap (λ (o : Option ℕ). unwrap_or o 0) p.next in
        let to : get_or nodes (other_of slots x) 0 ≡ cell_index s.vertices complex_cells (turned f) =
        ap (λ (n : ℕ). get_or nodes n 0) other ∙ node_number p.other b.1.0 ly b.1.1 ∙ ap
        (λ (g : DirectedFacet). cell_index s.vertices complex_cells g) b.1.2 in
        let cap : s.settings.vote * get_or crossed (number_of_side x) 0 + s.settings.smooth ≡ capacity s f =
        ap (λ (n : ℕ). s.settings.vote * n + s.settings.smooth)
        (counts.at x.id x.side f p.live p.in_range (least_rotated (facet_of (cell x.id) x.side))) in
        let facet_is : facet_at x.facet ≡ f = ap (λ (r : List ℕ). facet_at r) p.is in
        let reverse : flag_at fixed x.id ≡ false
        → get_or numbers (4 * other_of slots x + side_with (cell (other_of slots x)) (turned (facet_at x.facet))) 0
        ≡ facet_index complex_facets (turned f) =
        λ free. ap (λ (n : ℕ). get_or numbers (4 * n + side_with (cell n) (turned (facet_at x.facet))) 0) other
        ∙ ap (λ (g : DirectedFacet). get_or numbers (4 * p.other + side_with (cell p.other) (turned g)) 0) facet_is
        ∙ reverse_is x.id x.side p.other p.live p.in_range p.next free in
        same_arc (node_number x.id x.side p.live p.in_range) to cap
        (pairs (flag_at fixed x.id) refl reverse
        ∙ ap (λ (c : Bool). cond c None (Some (facet_index complex_facets (turned f))))
        (sym (made.fixed_is s slots fixed cells few rows moved flags x.id x.side p.live p.in_range)))
      where
        pairs : {m n : ℕ} (c : Bool) → flag_at fixed x.id ≡ c → (flag_at fixed x.id ≡ false → m ≡ n)
            → cond c None (Some m) ≡ cond c None (Some n)
        pairs true e h = refl
        pairs false e h = ap Some (h e)

    pub arcs_are : map (arc_from slots nodes numbers crossed fixed s.settings) sides
        ≡ map (arc_of s complex) complex_facets
    arcs_are =
        let n = length-map sides (arc_from slots nodes numbers crossed fixed s.settings) in
        let m = length-map complex_facets (arc_of s complex) in
        let k = length-map sides facet_of_side in
        same_lists (map (arc_from slots nodes numbers crossed fixed s.settings) sides)
        (map (arc_of s complex) complex_facets) (n ∙ sym k ∙ sym m)
        (λ i d l.
        let li : i < length sides = omega (arith, l, n) in
        let p = at_sides i no_side li in
        get_or-map (arc_from slots nodes numbers crossed fixed s.settings) sides i no_side d li
        ∙ arc_side (get_or sides i no_side) p
        ∙ sym (ap (arc_of s complex) (here i [] li ∙ p.is))
        ∙ sym (get_or-map (arc_of s complex) complex_facets i [] d (omega (arith, li, k))))
