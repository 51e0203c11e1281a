-- The network of linked cells and counts, without the numbers that stand for nothing, is that of the scene: a live cell stands for its
-- row, and a side with a free cell across for its facet.
--
-- The list of cells has each live cell once and that of facets each side with a free cell across, so sums over the lists are
-- sums over the slots (`SlotSums`). A facet is in one cell alone, so the cell of a facet is that of its side, and the cell of the turned
-- facet the neighbor. The rest is what the counts are.
use Rattle.std.proofs.Common.{ℕ, ◌≡◌, ◌<◌, ◌≤◌, ◌+◌, ◌*◌, ◌/◌, ◌%◌, ◌==◌, ◌++◌, Bool, true, false, cond, not, ◌||◌, Option}
use Rattle.std.proofs.Common.{Some, None, is_some, List, [], length, get_or, Contains, ap, ap₂, sym, subst, ◌∙◌, arith}
use Rattle.std.proofs.Common.{unwrap_or, slice_index}
use Rattle.std.specs.List.{sum_by}
use Rattle.std.specs.List.Sorted.{IsPermutation}
use Rattle.std.specs.Str.{bytes_eq}
use Rattle.std.proofs.lemmas.Bool.{eqb-true, eq-eqb}
use Rattle.std.proofs.lemmas.List.{get_or-map, length-map, get_or_past}
use Rattle.std.proofs.lemmas.List.Elements.{Contains-get_or}
use Rattle.std.proofs.lemmas.List.Sorted.{IsPermutation-refl}
use Rattle.std.proofs.lemmas.List.Sums.{sum_by-append}
use Rattle.std.proofs.lemmas.Slice.Eq.{bytes_eq-Decides}
use Rattle.slab.specs.Slab.{entries_from}
use Rattle.geo_sign.proofs.Booleans.{same_bools}
use Rattle.geo_sign.specs.Tetrahedron.{DirectedFacet, facet_at, turned}
use Rattle.flow_net.specs.Nets.{flag_at}
use Rattle.flow_net.specs.Sums.{sum_below}
use Rattle.flow_net.specs.Numbered.{NumberedNetwork}
use Rattle.flow_net.specs.Paddings.{IsPadding, kept}
use Rattle.flow_net.specs.declared.Flow.{Flow}
use Rattle.flow_net.specs.declared.votes.Settings.{Settings}
use Rattle.flow_net.proofs.Correspondences.{Corresponds}
use Rattle.tetra_store.specs.declared.link.Cell.{Cell}
use Rattle.tetra_store.specs.Links.{links_of, next_in, vertices_in, IsLive}
use Rattle.tetra_store.specs.Stored.{live_of}
use Rattle.tetra_store.proofs.Observed.{next_live, slot_in}
use Rattle.visibility.specs.Scenes.{Scene}
use Rattle.visibility.specs.Complexes.{Complex, cell_of}
use Rattle.visibility.specs.Votes.{is_fixed, capacity, sink}
use Rattle.visibility.specs.Cuts.{network_over}
use Rattle.visibility.specs.Laws.{row_index}
use Rattle.visibility.specs.Listings.{AreOnce}
use Rattle.visibility.specs.Listings.{IsListingOf}
use Rattle.visibility.proofs.Listings.{cells_once, facets_once}
use Rattle.visibility.proofs.Indices.{at_index, row_index_at}
use Rattle.cell_net.specs.declared.rows.Row.{Row}
use Rattle.cell_net.specs.declared.sides.Side.{Side}
use Rattle.cell_net.specs.ByNumber.{SaysOfCells, SaysOfSides, IsZeroElsewhere}
use Rattle.cell_net.specs.CellRows.{facet_row, risen, row_from}
use Rattle.cell_net.specs.Counts.{AreCountsOf, row_of}
use Rattle.cell_net.specs.Gathered.{all_rows, all_open, row_at, side_at, side_if_open, open_at}
use Rattle.cell_net.specs.StoredComplexes.{stored_complex}
use Rattle.cell_net.specs.Parts.{cell_of_row, facet_of_side, number_of_side}
use Rattle.cell_net.proofs.CellRows.{least_rotated}
use Rattle.cell_net.proofs.CellSides.{side_facet, one_cell, one_side_of, across_has}
use Rattle.cell_net.proofs.Entries.{map_has, map_gets, side_is, side_there}
use Rattle.cell_net.proofs.StoredListings as made_of
use Rattle.cell_net.proofs.Nodes as made
use Rattle.cell_net.proofs.Nodes.{no_row, no_side}
use Rattle.cell_net.proofs.Stored.{listed, live}
use Rattle.cell_net.specs.Arcs.{IsShape, across, neighbor_or_self, is_free}
use Rattle.cell_net.specs.Shape.{numbered_with}
use Rattle.cell_net.proofs.SlotSums.{sum_longer, by_fours, entry_sum, map_sum, flat_sum}

-- the cell and the side of an arc
cell_part : (id k : ℕ) → k < 4 → (4 * id + k) / 4 ≡ id
cell_part id k l = omega arith

side_part : (id k : ℕ) → k < 4 → (4 * id + k) % 4 ≡ k
side_part id k l = omega arith

-- what an open side says of the neighbor
record IsOpened (fixed : List Bool) (o : Option ℕ) : Type 0 where
  other : ℕ
  is : o ≡ Some other
  free : flag_at fixed other ≡ false

not_set : (b : Bool) → not b ≡ true → b ≡ false
not_set b e = grind arith

opened : (fixed : List Bool) (o : Option ℕ) → is_free fixed o ≡ true → IsOpened fixed o
opened fixed o e = grind (arith, not_set)

unset : (b : Bool) (m n : ℕ) → b ≡ false → cond b m n ≡ n
unset b m n e = grind arith

set : (b : Bool) (m n : ℕ) → b ≡ true → cond b m n ≡ m
set b m n e = grind arith

outside_of : (b c : Bool) → b ≡ false → (not b || c) ≡ true
outside_of b c e = grind arith

flag_of : (b c : Bool) → b ≡ true → (not b || c) ≡ c
flag_of b c e = grind arith

module _ (s : Scene) (slots : List (Option Cell)) (crossed behind : List ℕ) (fixed : List Bool) (settings : Settings)
    (asked : AreCountsOf s slots crossed behind fixed) (shape : IsShape slots crossed behind fixed settings)
    (same_settings : s.settings ≡ settings) where
  abbrev pub real : ℕ → Bool
  real = (links_of slots).is_live

  abbrev pub there : ℕ → Bool
  there j = is_free fixed (across slots j)

  abbrev pub net : NumberedNetwork
  net = numbered_with slots crossed behind fixed settings shape

  pub live_before : (j : ℕ) → there j ≡ true → IsLive (links_of slots) (j / 4)
  live_before j e = grind (arith, opened, next_live)

  -- the neighbor has the facet of the side turned
  other_has : (j : ℕ) (e : there j ≡ true) → IsLive (links_of slots) (opened fixed (across slots j) e).other
  other_has j e =
      let o = opened fixed (across slots j) e in
      live slots o.other
      (across_has s.vertices (live_of slots) (links_of slots).at (links_of slots).next asked.cells (j / 4) (j % 4) o.other
      (listed slots (j / 4) (live_before j e)) (omega arith) o.is).0

  entered_is : (j : ℕ) (e : there j ≡ true) → neighbor_or_self slots j ≡ (opened fixed (across slots j) e).other
  entered_is j e = ap (λ (o : Option ℕ). unwrap_or o (j / 4)) (opened fixed (across slots j) e).is

  pub padding : IsPadding net real there
  padding = record {
    fixed = λ v l none. outside_of (real v) (flag_at fixed v) none;
    no_sink = λ v l none. unset (real v) (settings.vote * get_or behind v 0) 0 none;
    no_capacity = λ j l none. unset (there j) (settings.vote * get_or crossed j 0 + settings.smooth) 0 none;
    from_real = λ j l e. live_before j e;
    to_real = λ j l e. subst (IsLive (links_of slots)) (sym (entered_is j e)) (other_has j e);
  }

  abbrev pub rows : List Row
  rows = all_rows slots

  abbrev pub sides : List Side
  sides = all_open fixed slots

  abbrev pub complex : Complex
  complex = stored_complex fixed slots

  -- all cells and facets of the scene, as the store has them
  pub stored_listing : IsListingOf s complex
  stored_listing =
      made_of.listing_is s slots crossed behind fixed rows sides asked
      (record { moved = IsPermutation-refl rows; moved_sides = IsPermutation-refl sides })

  -- the facet of an arc
  abbrev pub facet_by : ℕ → List ℕ
  facet_by j = facet_row ((links_of slots).at (j / 4)) (j % 4)

  -- what is said of sides is said of arcs
  pub by_arc : {X : Type 0} (at : ℕ → X) (facet : List ℕ → X) → SaysOfSides slots fixed at facet → (j : ℕ) → there j ≡ true
      → at j ≡ facet (facet_by j)
  by_arc at facet says j e = grind (arith, live_before, says (j / 4) (j % 4) (live_before j e) (omega arith) e)

  -- no more than the capacity, which is 0
  pub elsewhere : (flow : Flow) → ((j : ℕ) → j < 4 * length fixed → get_or flow.on_arc j 0 ≤ net.capacity j)
      → IsZeroElsewhere slots fixed (slice_index flow.on_arc)
  elsewhere flow within id k live l e = grind (arith, slot_in, cell_part, side_part)

  pub facet_there : (j : ℕ) → there j ≡ true → Contains complex.facets (facet_by j)
  facet_there j e =
      let o = opened fixed (across slots j) e in
      let x = side_there slots fixed (j / 4) (j % 4) o.other (omega arith) o.is o.free in
      let p = side_is slots fixed x.0 x.1 in
      subst (Contains complex.facets)
      (p.is ∙ ap₂ (λ (i k : ℕ). facet_row ((links_of slots).at i) k) x.2 x.3)
      (map_gets facet_of_side sides x.0 x.1)

  -- the arc of a facet
  pub arc_for : (f : List ℕ) → Contains complex.facets f → (j : ℕ) × ((j < 4 * length fixed) × (there j ≡ true)) × (facet_by j ≡ f)
  arc_for f has =
      let image = map_has facet_of_side sides f has in
      let x : Side = image.from in
      let p = side_is slots fixed x image.listed in
      let id_is = cell_part x.id x.side p.in_range in
      let side_is = side_part x.id x.side p.in_range in
      let low = slot_in slots x.id p.live in
      let k = p.in_range in
      let flags = shape.flags in (
        4 * x.id + x.side,
        (
          omega (arith, low, k, flags),
          ap (is_free fixed) (ap₂ (λ (i m : ℕ). (links_of slots).next i m) id_is side_is ∙ p.next) ∙ ap not p.free,
        ),
        ap₂ (λ (i m : ℕ). facet_row ((links_of slots).at i) m) id_is side_is ∙ sym p.is ∙ image.is,
      )

  pub capacity_is : (j : ℕ) → there j ≡ true → net.capacity j ≡ capacity s (facet_at (facet_by j))
  capacity_is j e = grind (arith, live_before, least_rotated, set)

  pub fixed_is : (v : ℕ) → real v ≡ true → net.is_fixed v ≡ is_fixed s.vertices s.scanners (row_of slots v)
  fixed_is v e = flag_of (real v) (flag_at fixed v) e ∙ asked.flags.at v e

  pub sink_is : (v : ℕ) → real v ≡ true → net.sink v ≡ sink s (row_of slots v)
  unfolding sink
  sink_is v e = grind (arith, set)

  -- ---- sums
  pub node_sums : (f : ℕ → ℕ) (g : List ℕ → ℕ) → ((v : ℕ) → (v < length fixed) × (real v ≡ true) → f v ≡ g (row_of slots v))
      → sum_below (length fixed) (λ v. cond (real v) (f v) 0) ≡ sum_by g complex.cells
  node_sums f g h =
      let under : ℕ → ℕ = λ v. cond (real v) (f v) 0 in
      let past : (i : ℕ) → length slots ≤ i → i < length fixed → under i ≡ 0 =
      λ i low high. unset (real i) (f i) 0 (ap is_some (get_or_past slots i None low)) in
      let some : (i : ℕ) (c : Cell) → i < length slots → get_or slots i None ≡ Some c → under i ≡ g (cell_of_row (row_at (0 + i, c))) =
      λ i c l e.
      let flags = shape.flags in
      set (real i) (f i) 0 (ap is_some e) ∙ h i (omega (arith, l, flags), ap is_some e)
      ∙ ap (λ (o : Option Cell). g (row_from (risen (vertices_in o)))) e in
      let none : (i : ℕ) → i < length slots → get_or slots i None ≡ None → under i ≡ 0 =
      λ i l e. unset (real i) (f i) 0 (ap is_some e) in
      sum_longer (length slots) (length fixed) under shape.flags past
      ∙ sym (entry_sum (λ e. g (cell_of_row (row_at e))) under 0 slots some none)
      ∙ sym (map_sum (λ r. g (cell_of_row r)) row_at (entries_from 0 slots))
      ∙ sym (map_sum g cell_of_row rows)

  -- what a side adds
  side_sum : (g : List ℕ → ℕ) (e : ℕ × Cell) (k n : ℕ) → n ≡ cond (is_free fixed (get_or e.1.next k None)) (g (facet_of_side (side_at e k))) 0
      → n ≡ sum_by (λ x. g (facet_of_side x)) (side_if_open fixed e k)
  unfolding side_if_open
  side_sum g e k n h = grind arith

  arc_at : (f : ℕ → ℕ) (g : List ℕ → ℕ)
      → ((j : ℕ) → (j < 4 * length fixed) × (there j ≡ true) → f j ≡ g (facet_by j)) → (i k : ℕ) (c : Cell) → k < 4
      → i < length slots → get_or slots i None ≡ Some c
      → cond (there (4 * i + k)) (f (4 * i + k)) 0
      ≡ cond (is_free fixed (get_or c.next k None)) (g (facet_of_side (side_at (i, c) k))) 0
  arc_at f g h i k c lk l e = grind (arith, cell_part, side_part, set, unset)

  pub arc_sums : (f : ℕ → ℕ) (g : List ℕ → ℕ)
      → ((j : ℕ) → (j < 4 * length fixed) × (there j ≡ true) → f j ≡ g (facet_by j))
      → sum_below (4 * length fixed) (λ j. cond (there j) (f j) 0) ≡ sum_by g complex.facets
  arc_sums f g h =
      let under : ℕ → ℕ = λ j. cond (there j) (f j) 0 in
      let four : ℕ → ℕ = λ i. under (4 * i) + under (4 * i + 1) + under (4 * i + 2) + under (4 * i + 3) in
      let G : Side → ℕ = λ x. g (facet_of_side x) in
      let none_at : (i k : ℕ) → k < 4 → get_or slots i None ≡ None → under (4 * i + k) ≡ 0 =
      λ i k l e.
      unset (there (4 * i + k)) (f (4 * i + k)) 0
      (ap (is_free fixed) (ap₂ (λ (x m : ℕ). (links_of slots).next x m) (cell_part i k l) (side_part i k l)
      ∙ ap (λ (o : Option Cell). next_in o k) e)) in
      let zeroth : (i : ℕ) → 4 * i + 0 ≡ 4 * i = λ i. omega arith in
      let none : (i : ℕ) → get_or slots i None ≡ None → four i ≡ 0 =
      λ i e.
      let first = ap under (zeroth i) in
      omega (
        arith,
        first,
        none_at i 0 (omega arith) e,
        none_at i 1 (omega arith) e,
        none_at i 2 (omega arith) e,
        none_at i 3 (omega arith) e,
      ) in
      let some : (i : ℕ) (c : Cell) → i < length slots → get_or slots i None ≡ Some c → four i ≡ sum_by G (open_at fixed (0 + i, c)) =
      λ i c l e.
      let first = ap under (zeroth i) in
      let at : (k : ℕ) → k < 4 → under (4 * i + k) ≡ sum_by G (side_if_open fixed (i, c) k) =
      λ k lk. side_sum g (i, c) k (under (4 * i + k)) (arc_at f g h i k c lk l e) in
      let a = side_if_open fixed (i, c) 0 in
      let b = side_if_open fixed (i, c) 1 in
      let d = side_if_open fixed (i, c) 2 in
      let w = side_if_open fixed (i, c) 3 in
      let number : i ≡ 0 + i = omega arith in
      let total : four i ≡ sum_by G (open_at fixed (i, c)) =
      omega (
        arith,
        first,
        at 0 (omega arith),
        at 1 (omega arith),
        at 2 (omega arith),
        at 3 (omega arith),
        sum_by-append G a (b ++ (d ++ w)),
        sum_by-append G b (d ++ w),
        sum_by-append G d w,
      ) in
      total ∙ ap (λ (n : ℕ). sum_by G (open_at fixed (n, c))) number in
      by_fours (length fixed) under
      ∙ sum_longer (length slots) (length fixed) four shape.flags (λ i low high. none i (get_or_past slots i None low))
      ∙ sym (entry_sum (λ e. sum_by G (open_at fixed e)) four 0 slots some (λ i l e. none i e))
      ∙ sym (flat_sum G (open_at fixed) (entries_from 0 slots))
      ∙ sym (map_sum g facet_of_side sides)

  -- ---- each cell once
  moved : IsPermutation rows rows
  moved = IsPermutation-refl rows

  once : AreOnce complex.cells
  once = cells_once s complex stored_listing

  -- the cell of a row
  abbrev pub back : List ℕ → ℕ
  back p = (get_or rows (row_index complex.cells p) no_row).id

  pub back_is : (p : List ℕ) → Contains complex.cells p → IsLive (links_of slots) (back p) × (row_of slots (back p) ≡ p)
  back_is p has =
      let n = length-map rows cell_of_row in
      let within = has.1 in
      let li : has.0 < length rows = omega (arith, within, n) in
      let at = made.row_at_is s slots fixed asked.cells asked.few rows moved has.0 no_row li in
      let index_is : row_index complex.cells p ≡ has.0 =
      ap (row_index complex.cells) (sym (at_index complex.cells p has)) ∙ row_index_at complex.cells has.0 once has.1 in
      let id_is : back p ≡ (get_or rows has.0 no_row).id = ap (λ (k : ℕ). (get_or rows k no_row).id) index_is in (
        subst (IsLive (links_of slots)) (sym id_is) at.live,
        ap (row_of slots) id_is ∙ sym at.is ∙ sym (get_or-map cell_of_row rows has.0 no_row [] li)
            ∙ at_index complex.cells p has,
      )

  pub row_there : (v : ℕ) → IsLive (links_of slots) v → Contains complex.cells (row_of slots v)
  row_there v e = made.row_in s slots fixed asked.cells asked.few rows moved v e

  -- so each function of numbers says of cells what one of rows says
  pub says_of_cells : {X : Type 0} (at : ℕ → X) → SaysOfCells slots at (λ p. at (back p))
  says_of_cells at v live =
      let b = back_is (row_of slots v) (row_there v live) in
      ap at (sym (made.one_id s slots fixed asked.cells asked.few (back (row_of slots v)) v b.0 live b.1))

  -- the side of a facet
  abbrev pub side_of : List ℕ → ℕ
  side_of f = number_of_side (get_or sides (row_index complex.facets f) no_side)

  side_of_is : (id k : ℕ) → IsLive (links_of slots) id → k < 4 → Contains complex.facets (facet_row ((links_of slots).at id) k)
      → side_of (facet_row ((links_of slots).at id) k) ≡ 4 * id + k
  side_of_is id k live l has =
      let f = facet_row ((links_of slots).at id) k in
      let within = has.1 in
      let n = length-map sides facet_of_side in
      let li : has.0 < length sides = omega (arith, within, n) in
      let facets_are_once = facets_once s complex stored_listing in
      let index_is : row_index complex.facets f ≡ has.0 =
      ap (row_index complex.facets) (sym (at_index complex.facets f has)) ∙ row_index_at complex.facets has.0 facets_are_once has.1 in
      let x : Side = get_or sides has.0 no_side in
      let p = side_is slots fixed x (Contains-get_or sides has.0 no_side li) in
      let rows_are : f ≡ facet_row ((links_of slots).at x.id) x.side =
      sym (at_index complex.facets f has) ∙ get_or-map facet_of_side sides has.0 no_side [] li ∙ p.is in
      let facets_are : side_facet s.vertices (live_of slots) (links_of slots).at (links_of slots).next asked.cells id k
      ≡ side_facet s.vertices (live_of slots) (links_of slots).at (links_of slots).next asked.cells x.id x.side =
      ap facet_at rows_are in
      let cell_is : id ≡ x.id =
      one_cell s.vertices (live_of slots) (links_of slots).at (links_of slots).next asked.cells id x.id k x.side
      (listed slots id live) (listed slots x.id p.live) l p.in_range facets_are in
      let side_is_k : k ≡ x.side =
      one_side_of s.vertices (live_of slots) (links_of slots).at (links_of slots).next asked.cells id k x.side
      (listed slots id live) l p.in_range
      (facets_are ∙ ap (λ (i : ℕ).
      side_facet s.vertices (live_of slots) (links_of slots).at (links_of slots).next asked.cells i x.side) (sym cell_is)) in
      ap (λ (i : ℕ). number_of_side (get_or sides i no_side)) index_is ∙ omega (arith, cell_is, side_is_k)

  pub says_of_sides : {X : Type 0} (at : ℕ → X) → SaysOfSides slots fixed at (λ f. at (side_of f))
  says_of_sides at id k live l e =
      let o = opened fixed ((links_of slots).next id k) e in
      let there_is : there (4 * id + k) ≡ true =
      ap (is_free fixed) (ap₂ (λ (i m : ℕ). (links_of slots).next i m) (cell_part id k l) (side_part id k l)) ∙ e in
      let has : Contains complex.facets (facet_row ((links_of slots).at id) k) =
      subst (Contains complex.facets)
      (ap₂ (λ (i m : ℕ). facet_row ((links_of slots).at i) m) (cell_part id k l) (side_part id k l))
      (facet_there (4 * id + k) there_is) in
      ap at (sym (side_of_is id k live l has))

  pub below : (v : ℕ) → IsLive (links_of slots) v → v < length fixed
  below v e = let low = slot_in slots v e in let flags = shape.flags in omega (arith, low, flags)

  pub from_is : (j : ℕ) → there j ≡ true → row_of slots (j / 4) ≡ cell_of s.vertices complex.cells (facet_at (facet_by j))
  from_is j e =
      sym (made.cell_is s slots fixed asked.cells asked.few rows moved (j / 4) (j % 4) (live_before j e) (omega arith))

  pub to_is : (j : ℕ) → there j ≡ true
      → row_of slots (neighbor_or_self slots j) ≡ cell_of s.vertices complex.cells (turned (facet_at (facet_by j)))
  to_is j e =
      let o = opened fixed (across slots j) e in
      let b =
      across_has s.vertices (live_of slots) (links_of slots).at (links_of slots).next asked.cells (j / 4) (j % 4) o.other
      (listed slots (j / 4) (live_before j e)) (omega arith) o.is in
      let t = b.1 in
      ap (row_of slots) (entered_is j e)
      ∙ sym (made.cell_is s slots fixed asked.cells asked.few rows moved o.other t.0 (other_has j e) t.1)
      ∙ ap (λ (f : DirectedFacet). cell_of s.vertices complex.cells f) t.2

  pub same_is : (v w : ℕ) → IsLive (links_of slots) v → IsLive (links_of slots) w
      → (v == w) ≡ bytes_eq (row_of slots v) (row_of slots w)
  same_is v w lv lw =
      same_bools (v == w) (bytes_eq (row_of slots v) (row_of slots w))
      (λ e. (bytes_eq-Decides (row_of slots v) (row_of slots w)).1 (ap (row_of slots) (eqb-true v w e)))
      (λ e. eq-eqb v w
      (made.one_id s slots fixed asked.cells asked.few v w lv lw ((bytes_eq-Decides (row_of slots v) (row_of slots w)).0 e)))

  -- cells and sides stand for rows and facets
  abbrev pub by_cell : Corresponds (kept net real there) (network_over s complex)
  by_cell = record {
    node = row_of slots;
    back = back;
    arc = facet_by;
    node_there = λ v is. row_there v is.1;
    back_there = λ p has. (below (back p) (back_is p has).0, (back_is p has).0);
    node_back = λ v is.
        let b = back_is (row_of slots v) (row_there v is.1) in
        made.one_id s slots fixed asked.cells asked.few (back (row_of slots v)) v b.0 is.1 b.1;
    back_node = λ p has. (back_is p has).1;
    arc_there = λ j is. facet_there j is.1;
    arc_of = arc_for;
    node_sums = node_sums;
    arc_sums = arc_sums;
    from_there = λ j is. (shape.tails_in j is.0, live_before j is.1);
    to_there = λ j is. (shape.heads_in j is.0, padding.to_real j is.0 is.1);
    from_is = λ j is. from_is j is.1;
    to_is = λ j is. to_is j is.1;
    same_is = λ v w lv lw. same_is v w lv.1 lw.1;
    capacity_is = λ j is. capacity_is j is.1;
    fixed_is = λ v is. fixed_is v is.1;
    sink_is = λ v is. sink_is v is.1;
  }
