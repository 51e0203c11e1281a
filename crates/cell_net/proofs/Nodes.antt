-- Rows are the list of cells and sides the list of facets with a capacity, in whatever order they stand. A cell is searched for
-- by a facet that it alone has, so what the search finds is the index of its row. Rows and facets are apart, and keys keep their
-- order, so sorted lists rise strictly.
-- Stands on: CellRows, CellSides, Entries, KeyOrders.
use Rattle.std.proofs.Common.{ℕ, ◌<◌, ◌≤◌, ◌^◌, ◌≡◌, refl, sym, ap, subst, ◌∙◌, ⊎_elim, arith, Bool, false, Option, Some, List}
use Rattle.std.proofs.Common.{[], length, get_or, map, AllPairs, Contains}
use Rattle.std.specs.List.Sorted.{IsPermutation, IsNonDecreasingBy}
use Rattle.std.proofs.lemmas.Bool.{false_from_ne_true}
use Rattle.std.proofs.lemmas.List.{get_or-map, get_or_default, length-map}
use Rattle.std.proofs.lemmas.List.Elements.{Contains-get_or}
use Rattle.std.proofs.lemmas.List.Sorted.{IsPermutation-sym, Contains-permutation}
use Rattle.std.proofs.lemmas.List.Sums.{position_or_len_is}
use Rattle.flow_net.specs.Nets.{flag_at}
use Rattle.geo_sign.specs.Tetrahedron.{Tetrahedron, DirectedFacet, facet_of, facet_at, numbers_of, turned, IsRotated}
use Rattle.geo_sign.specs.Cells.{IsRisingCell, IsCellList}
use Rattle.geo_sign.specs.Rising.{IsBefore}
use Rattle.visibility.specs.Scenes.{Scene}
use Rattle.visibility.specs.Complexes.{has_facet, HasFacet, cell_index, cell_of, Complex}
use Rattle.visibility.specs.Votes.{is_fixed, HasCapacity, IsFacetList, IsComplexOf}
use Rattle.geo_sign.specs.RowLaws.{IsRowOf, IsPositive}
use Rattle.geo_sign.proofs.RowLaws.{one_row, cells_are_rows}
use Rattle.cell_laws.proofs.RisingRows.{row_law}
use Rattle.tetra_store.specs.declared.link.Cell.{Cell}
use Rattle.tetra_store.specs.Links.{links_of, IsLive}
use Rattle.cell_net.specs.declared.rows.Row.{Row}
use Rattle.cell_net.specs.declared.sides.Side.{Side}
use Rattle.cell_net.specs.CellRows.{least_first, risen, facet_row}
use Rattle.cell_net.specs.Counts.{AreCellsOf, AreFixed, row_of}
use Rattle.cell_net.specs.Gathered.{row_key, facet_key, key_of_row, key_of_side, all_rows, all_open}
use Rattle.tetra_store.specs.Stored.{live_of}
use Rattle.cell_net.specs.Parts.{id_of_row, cell_of_row, facet_of_side, number_of_side, AreDistinctBy}
use Rattle.cell_net.proofs.CellRows.{IsSideOf, risen_row, row_has_side, least_rotated}
use Rattle.cell_net.proofs.CellSides.{side_facet, one_cell, one_side_of, across_has, has_across, has_is}
use Rattle.cell_net.proofs.Entries.{IsRowAt, IsSideAt, row_is, row_there, rows_apart, side_is, side_there, sides_apart}
use Rattle.cell_net.proofs.KeyOrders.{AreSmall, AreSmallOf, rows_before, facets_before}
use Rattle.cell_net.proofs.Stored.{listed, live}
use Rattle.cell_net.proofs.Lists.{apart_permuted}

abbrev pub no_row : Row
no_row = record { cell = []; id = 0 }

abbrev pub no_side : Side
no_side = record { facet = []; side = 0; id = 0 }

-- three numbers below a limit, written from any of them on
AreBelow : ℕ → DirectedFacet → Type 0
AreBelow n f = (f.a < n) × (f.b < n) × (f.c < n)

below_rotated : (n : ℕ) (f g : DirectedFacet) → IsRotated f g → AreBelow n f → AreBelow n g
unfolding AreBelow
below_rotated n f g h e = grind arith

below_side : (n : ℕ) (t : Tetrahedron) (k : ℕ) → t.a < n → t.b < n → t.c < n → t.d < n → AreBelow n (facet_of t k)
unfolding AreBelow
below_side n t k a b c d = grind arith

-- where an element is
pub record IsAt {X : Type 0} (xs : List X) (x : X) (i : ℕ) : Type 0 where
  pub below : i < length xs
  pub is : (d : X) → get_or xs i d ≡ x

at_index : {X : Type 0} (xs : List X) (x : X) → Contains xs x → (i : ℕ) × IsAt xs x i
at_index xs x h = (h.0, record { below = h.1; is = λ d. get_or_default xs h.0 d x h.1 ∙ h.2 })

module _ (s : Scene) (slots : List (Option Cell)) (fixed : List Bool) (cells : AreCellsOf s slots)
    (few : s.vertices.count ≤ 2 ^ 32) where
  abbrev cell : ℕ → Tetrahedron
  cell = (links_of slots).at

  abbrev next : ℕ → ℕ → Option ℕ
  next = (links_of slots).next

  abbrev facet_at_side : ℕ → ℕ → DirectedFacet
  facet_at_side x k = least_first (facet_of (cell x) k)

  positive : (x : ℕ) → IsLive (links_of slots) x → IsPositive s.vertices (cell x)
  positive x h = (cells.cells x (listed slots x h)).positive

  -- the row of a live cell
  is_row : (x : ℕ) → IsLive (links_of slots) x → IsRowOf (cell x) (row_of slots x)
  is_row x h = risen_row s.vertices (cell x) (positive x h)

  pub rising_row : (x : ℕ) → IsLive (links_of slots) x → IsRisingCell s.vertices (row_of slots x)
  rising_row x h = cells_are_rows.row s.vertices (cell x) (row_of slots x) (cells.cells x (listed slots x h)) (is_row x h)

  small_at : (x : ℕ) → IsLive (links_of slots) x → AreSmall (risen (cell x))
  small_at x h = grind (arith, rising_row)

  -- rows that are equal are those of one cell
  pub one_id : (x y : ℕ) → IsLive (links_of slots) x → IsLive (links_of slots) y → row_of slots x ≡ row_of slots y → x ≡ y
  one_id x y hx hy e =
      (row_law s.vertices (live_of slots) cell cells.listing).one (row_of slots x) x y (listed slots x hx) (listed slots y hy)
      (is_row x hx) (subst (IsRowOf (cell y)) (sym e) (is_row y hy))

  -- ---- sides
  module _ (sides : List Side) (side_at_is : (i : ℕ) (d : Side) → i < length sides → IsSideAt slots fixed (get_or sides i d))
      (sides_are_apart : AreDistinctBy number_of_side sides) where
    -- sides of one facet are one
    pub one_index : (i j : ℕ) → i < length sides → j < length sides
        → facet_at (get_or sides i no_side).facet ≡ facet_at (get_or sides j no_side).facet → i ≡ j
    one_index i j li lj e =
        let p = side_at_is i no_side li in
        let q = side_at_is j no_side lj in
        let x = get_or sides i no_side in
        let y = get_or sides j no_side in
        let f : facet_at_side x.id x.side ≡ facet_at_side y.id y.side =
        sym (ap (λ (r : List ℕ). facet_at r) p.is) ∙ e ∙ ap (λ (r : List ℕ). facet_at r) q.is in
        let id : x.id ≡ y.id =
        one_cell s.vertices (live_of slots) cell next cells x.id y.id x.side y.side (listed slots x.id p.live)
        (listed slots y.id q.live) p.in_range q.in_range f in
        let side : x.side ≡ y.side =
        one_side_of s.vertices (live_of slots) cell next cells x.id x.side y.side (listed slots x.id p.live)
        p.in_range q.in_range
        (f ∙ ap (λ (n : ℕ). facet_at_side n y.side) (sym id)) in
        sides_are_apart i j no_side li lj (omega (arith, id, side))

    small_facet : (x k : ℕ) → IsLive (links_of slots) x → AreSmallOf (facet_at_side x k)
    unfolding AreBelow
    small_facet x k h = grind (arith, listed, below_rotated, least_rotated, below_side)

    facet_there : (i : ℕ) (d : List ℕ) → i < length sides
        → get_or (map facet_of_side sides) i d ≡ (get_or sides i no_side).facet
    facet_there i d l = get_or-map facet_of_side sides i no_side d l

    pub facets_rise : IsNonDecreasingBy key_of_side sides → AllPairs IsBefore (map facet_of_side sides)
    facets_rise sorted_sides i j d l m =
        let n = length-map sides facet_of_side in
        let lj : j < length sides = omega (arith, m, n) in
        let li : i < length sides = omega (arith, l, lj) in
        let x = get_or sides i no_side in
        let y = get_or sides j no_side in
        let p = side_at_is i no_side li in
        let q = side_at_is j no_side lj in
        let key : facet_key (facet_row (cell x.id) x.side) ≤ facet_key (facet_row (cell y.id) y.side) =
        subst (λ (k : ℕ). k ≤ facet_key (facet_row (cell y.id) y.side)) (ap facet_key p.is)
        (subst (λ (k : ℕ). facet_key x.facet ≤ k) (ap facet_key q.is) (sorted_sides i j no_side (omega (arith, l)) lj)) in
        subst (λ (a : List ℕ). IsBefore a (get_or (map facet_of_side sides) j d)) (sym (facet_there i d li ∙ p.is))
        (subst (λ (b : List ℕ). IsBefore (facet_row (cell x.id) x.side) b) (sym (facet_there j d lj ∙ q.is))
        (⊎_elim (λ (h : IsBefore (facet_row (cell x.id) x.side) (facet_row (cell y.id) y.side)). h)
        (λ (e : facet_at_side x.id x.side ≡ facet_at_side y.id y.side).
        let same : i ≡ j =
        one_index i j li lj (ap (λ (r : List ℕ). facet_at r) p.is ∙ e ∙ sym (ap (λ (r : List ℕ). facet_at r) q.is)) in
        absurd (omega (arith, l, same)))
        (facets_before (facet_at_side x.id x.side) (facet_at_side y.id y.side) (small_facet x.id x.side p.live)
        (small_facet y.id y.side q.live) key)))

  module _ (rows : List Row) (moved : IsPermutation (all_rows slots) rows) where
    abbrev pub complex_cells : List (List ℕ)
    complex_cells = map cell_of_row rows

    pub row_at_is : (i : ℕ) (d : Row) → i < length rows → IsRowAt slots (get_or rows i d)
    row_at_is i d l =
        row_is slots (get_or rows i d)
        (Contains-permutation rows (all_rows slots) (get_or rows i d) (IsPermutation-sym (all_rows slots) rows moved)
        (Contains-get_or rows i d l))

    pub apart : AreDistinctBy id_of_row rows
    apart = apart_permuted id_of_row (all_rows slots) rows moved (rows_apart slots)

    -- the node of a cell
    pub record IsNode (x i : ℕ) : Type 0 where
      pub below : i < length rows
      pub is : (d : Row) → (get_or rows i d).id ≡ x

    pub node : (x : ℕ) → IsLive (links_of slots) x → (i : ℕ) × IsNode x i
    node x h =
        let t = row_there slots x h in
        let p = at_index rows t.0 (Contains-permutation (all_rows slots) rows t.0 moved t.1) in
        (p.0, record { below = p.1.below; is = λ d. ap id_of_row (p.1.is d) ∙ t.2 })

    row_here : (i : ℕ) → i < length rows → get_or complex_cells i [] ≡ row_of slots (get_or rows i no_row).id
    row_here i l = get_or-map cell_of_row rows i no_row [] l ∙ (row_at_is i no_row l).is

    rises : IsNonDecreasingBy key_of_row rows → AllPairs IsBefore complex_cells
    rises sorted i j d l m =
        let n = length-map rows cell_of_row in
        let lj : j < length rows = omega (arith, m, n) in
        let li : i < length rows = omega (arith, l, lj) in
        let p = row_at_is i no_row li in
        let q = row_at_is j no_row lj in
        let x = (get_or rows i no_row).id in
        let y = (get_or rows j no_row).id in
        let first : get_or complex_cells i d ≡ row_of slots x = get_or-map cell_of_row rows i no_row d li ∙ p.is in
        let second : get_or complex_cells j d ≡ row_of slots y = get_or-map cell_of_row rows j no_row d lj ∙ q.is in
        let key : row_key_of x ≤ row_key_of y =
        subst (λ (k : ℕ). k ≤ row_key_of y) (ap row_key p.is)
        (subst (λ (k : ℕ). row_key (get_or rows i no_row).cell ≤ k) (ap row_key q.is)
        (sorted i j no_row (omega (arith, l)) lj)) in
        subst (λ (a : List ℕ). IsBefore a (get_or complex_cells j d)) (sym first)
        (subst (λ (b : List ℕ). IsBefore (row_of slots x) b) (sym second)
        (⊎_elim (λ (h : IsBefore (row_of slots x) (row_of slots y)). h)
        (λ (e : row_of slots x ≡ row_of slots y). let same : i ≡ j = apart i j no_row li lj (one_id x y p.live q.live e) in
        absurd (omega (arith, l, same)))
        (rows_before (risen (cell x)) (risen (cell y)) (small_at x p.live) (small_at y q.live) key)))
      where
        row_key_of : ℕ → ℕ
        row_key_of x = row_key (row_of slots x)

    only_cells : (row : List ℕ) → Contains complex_cells row → IsRisingCell s.vertices row
    only_cells row h =
        let n = length-map rows cell_of_row in let l = h.1 in
        let k : h.0 < length rows = omega (arith, l, n) in
        let p = row_at_is h.0 no_row k in
        subst (IsRisingCell s.vertices) (sym p.is ∙ sym (get_or-map cell_of_row rows h.0 no_row row k) ∙ h.2)
        (rising_row (get_or rows h.0 no_row).id p.live)

    pub row_in : (x : ℕ) → IsLive (links_of slots) x → Contains complex_cells (row_of slots x)
    row_in x h =
        let p = node x h in let n = length-map rows cell_of_row in let l = p.1.below in (
          p.0,
          omega (arith, l, n),
          get_or-map cell_of_row rows p.0 no_row (row_of slots x) l ∙ (row_at_is p.0 no_row l).is
              ∙ ap (row_of slots) (p.1.is no_row),
        )

    all_cells : (row : List ℕ) → IsRisingCell s.vertices row → Contains complex_cells row
    all_cells row h =
        let z = (row_law s.vertices (live_of slots) cell cells.listing).name row h in
        let lx = live slots z.0 z.1 in
        subst (Contains complex_cells) (one_row (cell z.0) row (row_of slots z.0) z.2 (is_row z.0 lx)) (row_in z.0 lx)

    pub cell_list : IsNonDecreasingBy key_of_row rows → IsCellList s.vertices complex_cells
    cell_list sorted = record { rising = rises sorted; cells = only_cells; all = all_cells }

    -- the index of the cell that has a facet
    pub index_is : (x k i : ℕ) → IsLive (links_of slots) x → k < 4 → IsNode x i
        → cell_index s.vertices complex_cells (facet_at_side x k) ≡ i
    index_is x k i h l n =
        let f : DirectedFacet = facet_at_side x k in
        let len = length-map rows cell_of_row in let b = n.below in
        position_or_len_is (λ row. has_facet s.vertices row f) complex_cells i [] (omega (arith, b, len))
        (λ m lm. false_from_ne_true (has_facet s.vertices (get_or complex_cells m []) f) (λ e.
        let bm : m < length rows = omega (arith, lm, b) in
        let y = (get_or rows m no_row).id in
        let p = row_at_is m no_row bm in
        let t : IsSideOf (cell y) f =
        has_is s.vertices (live_of slots) cell next cells y f (listed slots y p.live)
        (ap (λ (row : List ℕ). has_facet s.vertices row f) (sym (row_here m bm)) ∙ e) in
        let same : y ≡ x =
        one_cell s.vertices (live_of slots) cell next cells y x t.0 k (listed slots y p.live) (listed slots x h) t.1 l t.2 in
        let back : m ≡ i = apart m i no_row bm b (same ∙ sym (n.is no_row)) in
        omega (arith, lm, back)))
        (λ _. ap (λ (row : List ℕ). has_facet s.vertices row f) (row_here i b ∙ ap (row_of slots) (n.is no_row))
        ∙ row_has_side s.vertices (cell x) k (positive x h))

    pub cell_is : (x k : ℕ) → IsLive (links_of slots) x → k < 4
        → cell_of s.vertices complex_cells (facet_at_side x k) ≡ row_of slots x
    cell_is x k h l =
        let p = node x h in
        ap (λ (i : ℕ). get_or complex_cells i []) (index_is x k p.0 h l p.1) ∙ row_here p.0 p.1.below ∙ ap (row_of slots)
        (p.1.is no_row)

    has_facet_of : (x k : ℕ) → IsLive (links_of slots) x → k < 4 → HasFacet s.vertices complex_cells (facet_at_side x k)
    has_facet_of x k h l =
        let c = row_in x h in
        (c.0, row_of slots x, c.1, c.2, row_has_side s.vertices (cell x) k (positive x h))

    -- and who has it
    pub owner : (f : DirectedFacet) → HasFacet s.vertices complex_cells f
        → (x : ℕ) × IsLive (links_of slots) x × IsSideOf (cell x) f
    owner f h =
        let len = length-map rows cell_of_row in let l = h.2 in
        let i : h.0 < length rows = omega (arith, l, len) in
        let x = (get_or rows h.0 no_row).id in
        let p = row_at_is h.0 no_row i in
        let at : row_of slots x ≡ h.1 = sym (row_here h.0 i) ∙ get_or_default complex_cells h.0 [] h.1 l ∙ h.3 in (
          x,
          p.live,
          has_is s.vertices (live_of slots) cell next cells x f (listed slots x p.live)
              (ap (λ (row : List ℕ). has_facet s.vertices row f) at ∙ h.4),
        )

    module _ (flags : AreFixed s slots fixed) where
      pub fixed_is : (x k : ℕ) → IsLive (links_of slots) x → k < 4
          → is_fixed s.vertices s.scanners (cell_of s.vertices complex_cells (facet_at_side x k)) ≡ flag_at fixed x
      fixed_is x k h l = ap (is_fixed s.vertices s.scanners) (cell_is x k h l) ∙ sym (flags.at x h)

      capacity_of : (x : Side) → IsSideAt slots fixed x → HasCapacity s complex_cells x.facet
      capacity_of x p =
          let f : DirectedFacet = facet_at_side x.id x.side in
          let b =
          across_has s.vertices (live_of slots) cell next cells x.id x.side p.other
          (listed slots x.id p.live) p.in_range p.next in
          let ly = live slots p.other b.0 in
          let t : IsSideOf (cell p.other) (turned f) = b.1 in
          subst (HasCapacity s complex_cells) (sym p.is)
          (record {
            three = refl;
            own = has_facet_of x.id x.side p.live p.in_range;
            across = subst (HasFacet s.vertices complex_cells) t.2 (has_facet_of p.other t.0 ly t.1);
            free =
                subst (λ (g : DirectedFacet). is_fixed s.vertices s.scanners (cell_of s.vertices complex_cells g) ≡ false) t.2
                (fixed_is p.other t.0 ly t.1 ∙ p.free);
          })

      -- the side of a facet that has a capacity
      side_of_capacity : (f : List ℕ) → HasCapacity s complex_cells f
          → (x : Side) × Contains (all_open fixed slots) x × (x.facet ≡ f)
      side_of_capacity f h =
          let x = owner (facet_at f) h.own in
          let y = owner (turned (facet_at f)) h.across in
          let k = x.2 in
          let m = y.2 in
          let e : side_facet s.vertices (live_of slots) cell next cells y.0 m.0 ≡ turned (facet_at_side x.0 k.0) =
          m.2 ∙ ap (λ (g : DirectedFacet). turned g) (sym k.2) in
          let n : next x.0 k.0 ≡ Some y.0 =
          has_across s.vertices (live_of slots) cell next cells x.0 k.0 y.0 m.0 (listed slots x.0 x.1)
          (listed slots y.0 y.1) k.1 m.1 e in
          let free : flag_at fixed y.0 ≡ false =
          sym (fixed_is y.0 m.0 y.1 m.1) ∙ ap
          (λ (g : DirectedFacet). is_fixed s.vertices s.scanners (cell_of s.vertices complex_cells g)) m.2 ∙ h.free in
          let z = side_there slots fixed x.0 k.0 y.0 k.1 n free in
          let p = side_is slots fixed z.0 z.1 in
          let at : facet_row (cell z.0.id) z.0.side ≡ facet_row (cell x.0) k.0 =
          ap (λ (i : ℕ). facet_row (cell i) z.0.side) z.2 ∙ ap (λ (i : ℕ). facet_row (cell x.0) i) z.3 in
          (z.0, z.1, p.is ∙ at ∙ ap (λ (g : DirectedFacet). numbers_of g) k.2 ∙ sym h.three)

      module _ (sides : List Side) (moved_sides : IsPermutation (all_open fixed slots) sides) where
        abbrev pub complex_facets : List (List ℕ)
        complex_facets = map facet_of_side sides

        pub side_at_is : (i : ℕ) (d : Side) → i < length sides → IsSideAt slots fixed (get_or sides i d)
        side_at_is i d l =
            side_is slots fixed (get_or sides i d)
            (Contains-permutation sides (all_open fixed slots) (get_or sides i d)
            (IsPermutation-sym (all_open fixed slots) sides moved_sides) (Contains-get_or sides i d l))

        pub sides_are_apart : AreDistinctBy number_of_side sides
        sides_are_apart = apart_permuted number_of_side (all_open fixed slots) sides moved_sides (sides_apart fixed slots)

        pub facet_here : (i : ℕ) (d : List ℕ) → i < length sides → get_or complex_facets i d ≡ (get_or sides i no_side).facet
        facet_here i d l = get_or-map facet_of_side sides i no_side d l

        only_facets : (f : List ℕ) → Contains complex_facets f → HasCapacity s complex_cells f
        only_facets f h =
            let n = length-map sides facet_of_side in let l = h.1 in
            let k : h.0 < length sides = omega (arith, l, n) in
            subst (HasCapacity s complex_cells) (sym (facet_here h.0 f k) ∙ h.2)
            (capacity_of (get_or sides h.0 no_side) (side_at_is h.0 no_side k))

        -- where a side is
        pub side_in : (x : Side) → Contains (all_open fixed slots) x → (i : ℕ) × IsAt sides x i
        side_in x h = at_index sides x (Contains-permutation (all_open fixed slots) sides x moved_sides h)

        all_facets : (f : List ℕ) → HasCapacity s complex_cells f → Contains complex_facets f
        all_facets f h =
            let z = side_of_capacity f h in
            let p = side_in z.0 z.1 in
            let n = length-map sides facet_of_side in let l = p.1.below in
            (p.0, omega (arith, l, n), facet_here p.0 f l ∙ ap facet_of_side (p.1.is no_side) ∙ z.2)

        pub facet_list : IsNonDecreasingBy key_of_side sides → IsFacetList s complex_cells complex_facets
        facet_list sorted =
            record { rising = facets_rise sides side_at_is sides_are_apart sorted; only = only_facets; all = all_facets }

        abbrev pub complex : Complex
        complex = record { cells = complex_cells; facets = complex_facets }

        pub complex_is : IsNonDecreasingBy key_of_row rows → IsNonDecreasingBy key_of_side sides → IsComplexOf s complex
        complex_is sorted sorted_sides = record { cells_are = cell_list sorted; facets_are = facet_list sorted_sides }
