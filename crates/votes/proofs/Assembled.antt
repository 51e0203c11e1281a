-- What the lists and tables of the code are together: the network of the scene, which is valid as all networks of scenes
-- are.
--
-- Rows and sides are the store's in any order, so they are a listing of the scene's cells and facets. Flags and sinks are then
-- what the definitions have of each row (by_rows), and arcs what they have of each side (arcs_are). IsMade is what the calls have
-- left of it, from which valid and ids_are follow, and network_is where the lists are sorted.
--
-- Stands on: SideArcs.
use Rattle.std.proofs.Common.{ℕ, ◌*◌, ◌<◌, ◌^◌, ◌≡◌, sym, ap, subst, ◌∙◌, arith, Bool, is_some, Option, List, [], length}
use Rattle.std.proofs.Common.{get_or, map, Contains, unwrap_or}
use Rattle.std.specs.List.Sorted.{IsNonDecreasingBy}
use Rattle.std.proofs.lemmas.List.{get_or-map, length-map, same_lists}
use Rattle.std.proofs.lemmas.List.Sorted.{IsPermutation-sym, Contains-permutation}
use Rattle.flow_net.specs.Nets.{flag_at, IsValidNet}
use Rattle.flow_net.specs.declared.Arc.{Arc}
use Rattle.flow_net.specs.declared.Net.{Net}
use Rattle.flow_net.specs.declared.votes.Settings.{Settings}
use Rattle.visibility.specs.Scenes.{Scene}
use Rattle.visibility.specs.Complexes.{Complex}
use Rattle.visibility.specs.Votes.{is_fixed, sink}
use Rattle.plain_net.specs.Networks.{arc_of, IsNetworkOf}
use Rattle.plain_net.proofs.Validity.{network_valid}
use Rattle.tetra_store.specs.declared.link.Cell.{Cell}
use Rattle.tetra_store.specs.Links.{links_of, IsLive}
use Rattle.cell_net.specs.declared.rows.Row.{Row}
use Rattle.cell_net.specs.declared.sides.Side.{Side}
use Rattle.cell_net.specs.Counts.{AreCountsOf, AreIdsOf, row_of}
use Rattle.cell_net.specs.Gathered.{key_of_row, key_of_side, all_rows, all_open}
use Rattle.cell_net.specs.Parts.{id_of_row, cell_of_row, facet_of_side, number_of_side, AreDistinctBy}
use Rattle.votes.specs.Tables.{AreNumbered, AreArcs}
use Rattle.votes.specs.Tables.{CanBecomeArc, other_of, arc_from}
use Rattle.cell_net.proofs.CellSides.{across_has}
use Rattle.cell_net.proofs.Entries.{IsRowAt, IsSideAt, row_is, side_is}
use Rattle.cell_net.proofs.Stored.{listed, live}
use Rattle.cell_net.proofs.Nodes as made
use Rattle.cell_net.proofs.Nodes.{no_row}
use Rattle.votes.proofs.SideArcs as tables
use Rattle.cell_net.proofs.StoredListings.{AreListed, complex_is, listing_is}
use Rattle.tetra_store.specs.Stored.{live_of}
use Rattle.tetra_store.proofs.Observed.{slot_in}

module _ (s : Scene) (slots : List (Option Cell)) (crossed behind : List ℕ) (fixed : List Bool) (rows : List Row)
    (sides : List Side) (asked : AreCountsOf s slots crossed behind fixed) (lists : AreListed slots fixed rows sides) where
  row_at_is : (r : Row) → Contains rows r → IsRowAt slots r
  row_at_is r h =
      row_is slots r (Contains-permutation rows (all_rows slots) r (IsPermutation-sym (all_rows slots) rows lists.moved) h)

  side_at_is : (x : Side) → Contains sides x → IsSideAt slots fixed x
  side_at_is x h =
      side_is slots fixed x
      (Contains-permutation sides (all_open fixed slots) x (IsPermutation-sym (all_open fixed slots) sides lists.moved_sides) h)

  pub ids_below : (r : Row) → Contains rows r → id_of_row r < length fixed
  ids_below r h = let l = slot_in slots r.id (row_at_is r h).live in let n = asked.flags.count in omega (arith, l, n)

  pub rows_apart : AreDistinctBy id_of_row rows
  rows_apart = made.apart s slots fixed asked.cells asked.few rows lists.moved

  pub numbers_below : (x : Side) → Contains sides x → number_of_side x < length crossed
  numbers_below x h =
      let p = side_at_is x h in
      let l = slot_in slots x.id p.live in
      let k = p.in_range in
      let n = asked.crossings.count in
      omega (arith, l, k, n)

  pub sides_apart : AreDistinctBy number_of_side sides
  sides_apart =
      made.sides_are_apart s slots fixed asked.cells asked.few rows lists.moved asked.flags sides lists.moved_sides

  pub can_join : length crossed < 2 ^ 64 → (x : Side) → Contains sides x → CanBecomeArc slots x
  can_join fits x h =
      let p = side_at_is x h in
      let n = asked.crossings.count in
      let l = slot_in slots x.id p.live in
      let b =
      across_has s.vertices (live_of slots) (links_of slots).at (links_of slots).next asked.cells x.id x.side p.other
      (listed slots x.id p.live) p.in_range p.next in
      let m = slot_in slots p.other (live slots p.other b.0) in
      let other : other_of slots x ≡ p.other = ap (λ (o : Option ℕ). unwrap_or o 0) p.next in
      record {
        live = p.live;
        in_range = p.in_range;
        there = ap is_some p.next;
        small = omega (arith, fits, n, l);
        small_other = omega (arith, fits, n, m, other);
      }

  abbrev complex : Complex
  complex = record { cells = map cell_of_row rows; facets = map facet_of_side sides }

  by_rows : {Y : Type 0} (f : Row → Y) (g : List ℕ → Y) → ((r : Row) → IsRowAt slots r → f r ≡ g (row_of slots r.id))
      → map f rows ≡ map g (map cell_of_row rows)
  by_rows f g same =
      let n = length-map rows f in let m = length-map (map cell_of_row rows) g in let k = length-map rows cell_of_row in
      same_lists (map f rows) (map g (map cell_of_row rows)) (n ∙ sym k ∙ sym m)
      (λ i d l.
      let li : i < length rows = omega (arith, l, n) in
      let p = made.row_at_is s slots fixed asked.cells asked.few rows lists.moved i no_row li in
      get_or-map f rows i no_row d li ∙ same (get_or rows i no_row) p ∙ sym
      (ap g (get_or-map cell_of_row rows i no_row [] li ∙ p.is)) ∙ sym
      (get_or-map g (map cell_of_row rows) i [] d (omega (arith, li, k))))

  fixed_are : map (λ r. flag_at fixed (id_of_row r)) rows ≡ map (is_fixed s.vertices s.scanners) (map cell_of_row rows)
  fixed_are = by_rows (λ r. flag_at fixed (id_of_row r)) (is_fixed s.vertices s.scanners) (λ r p. asked.flags.at r.id p.live)

  sinks_are : map (λ r. s.settings.vote * get_or behind (id_of_row r) 0) rows ≡ map (sink s) (map cell_of_row rows)
  unfolding sink
  sinks_are =
      by_rows (λ r. s.settings.vote * get_or behind (id_of_row r) 0) (sink s)
      (λ r p. ap (λ (n : ℕ). s.settings.vote * n) (asked.before.at r.id p.live))

  arcs_are : (nodes numbers : List ℕ) → AreNumbered id_of_row rows nodes → AreNumbered number_of_side sides numbers
      → map (arc_from slots nodes numbers crossed fixed s.settings) sides ≡ map (arc_of s complex) (map facet_of_side sides)
  arcs_are nodes numbers a b =
      tables.arcs_are s slots fixed asked.cells asked.few rows lists.moved asked.flags sides lists.moved_sides nodes numbers
      crossed a b asked.crossings

  -- the parts of the network, as they are made
  pub record IsMade (settings : Settings) (flags : List Bool) (sinks : List ℕ) (arcs : List Arc) : Type 0 where
    pub settings_are : s.settings ≡ settings
    pub flags_are : flags ≡ map (λ r. flag_at fixed (id_of_row r)) rows
    pub sinks_are : sinks ≡ map (λ r. settings.vote * get_or behind (id_of_row r) 0) rows
    pub arcs_are : AreArcs slots rows sides crossed fixed settings arcs

  pub fixed_made : (settings : Settings) (flags : List Bool) (sinks : List ℕ) (arcs : List Arc)
      → IsMade settings flags sinks arcs
      → flags ≡ map (is_fixed s.vertices s.scanners) (map cell_of_row rows)
  fixed_made settings flags sinks arcs m = m.flags_are ∙ fixed_are

  pub sinks_made : (settings : Settings) (flags : List Bool) (sinks : List ℕ) (arcs : List Arc)
      → IsMade settings flags sinks arcs
      → sinks ≡ map (sink s) (map cell_of_row rows)
  sinks_made settings flags sinks arcs m =
      m.sinks_are ∙ ap (λ (x : Settings). map (λ r. x.vote * get_or behind (id_of_row r) 0) rows) (sym m.settings_are)
      ∙ sinks_are

  pub arcs_made : (settings : Settings) (flags : List Bool) (sinks : List ℕ) (arcs : List Arc)
      → IsMade settings flags sinks arcs
      → arcs ≡ map (arc_of s complex) (map facet_of_side sides)
  arcs_made settings flags sinks arcs m =
      let a = m.arcs_are in
      a.are_arcs ∙ ap (λ (x : Settings). map (arc_from slots a.nodes a.numbers crossed fixed x) sides) (sym m.settings_are)
      ∙ arcs_are a.nodes a.numbers a.are_nodes a.are_numbers

  pub valid : (settings : Settings) (flags : List Bool) (sinks : List ℕ) (arcs : List Arc) → IsMade settings flags sinks arcs
      → IsValidNet flags sinks arcs
  valid settings flags sinks arcs m =
      subst (λ (x : List Bool). IsValidNet x sinks arcs) (sym (fixed_made settings flags sinks arcs m))
      (subst (λ (y : List ℕ). IsValidNet (map (is_fixed s.vertices s.scanners) (map cell_of_row rows)) y arcs)
      (sym (sinks_made settings flags sinks arcs m))
      (subst (λ (z : List Arc).
      IsValidNet (map (is_fixed s.vertices s.scanners) (map cell_of_row rows)) (map (sink s) (map cell_of_row rows)) z)
      (sym (arcs_made settings flags sinks arcs m))
      (network_valid s complex asked.few_sights (listing_is s slots crossed behind fixed rows sides asked lists))))

  pub network_is : (settings : Settings) (flags : List Bool) (sinks : List ℕ) (arcs : List Arc)
      → IsMade settings flags sinks arcs → IsNonDecreasingBy key_of_row rows → IsNonDecreasingBy key_of_side sides
      → (net : Net) (cells facets : List (List ℕ)) → cells ≡ map cell_of_row rows → facets ≡ map facet_of_side sides
      → net.fixed ≡ flags → net.sink ≡ sinks → net.arcs ≡ arcs → IsNetworkOf s
      (record { net = net; cells = cells; facets = facets })
  network_is settings flags sinks arcs m sorted sorted_sides net cells facets c f x y z =
      subst (λ (u : List (List ℕ)). IsNetworkOf s (record { net = net; cells = u; facets = facets })) (sym c)
      (subst (λ (u : List (List ℕ)). IsNetworkOf s (record { net = net; cells = map cell_of_row rows; facets = u }))
      (sym f)
      (record {
        complex_is = complex_is s slots crossed behind fixed rows sides asked lists sorted sorted_sides;
        fixed_is = x ∙ fixed_made settings flags sinks arcs m;
        sink_is = y ∙ sinks_made settings flags sinks arcs m;
        arcs_are = z ∙ arcs_made settings flags sinks arcs m;
      }))

  pub ids_are : (cells : List (List ℕ)) (ids : List ℕ) → cells ≡ map cell_of_row rows → ids ≡ map id_of_row rows
      → AreIdsOf slots cells ids
  ids_are cells ids c e =
      let n = length-map rows id_of_row in let m = length-map rows cell_of_row in
      let k : length ids ≡ length rows = ap (λ (u : List ℕ). length u) e ∙ n in
      let there : (i : ℕ) → i < length rows → get_or ids i 0 ≡ (get_or rows i no_row).id =
      λ i l. ap (λ (u : List ℕ). get_or u i 0) e ∙ get_or-map id_of_row rows i no_row 0 l in
      let at : (i : ℕ) → i < length rows → IsRowAt slots (get_or rows i no_row) =
      λ i l. made.row_at_is s slots fixed asked.cells asked.few rows lists.moved i no_row l in
      record {
        count = k ∙ sym m ∙ sym (ap (λ (u : List (List ℕ)). length u) c);
        live = λ i l. subst (IsLive (links_of slots)) (sym (there i (omega (arith, l, k)))) (at i (omega (arith, l, k))).live;
        row = λ i l.
            (let li : i < length rows = omega (arith, l, k) in
            ap (λ (u : List (List ℕ)). get_or u i []) c ∙ get_or-map cell_of_row rows i no_row [] li ∙ (at i li).is ∙ ap
            (row_of slots) (sym (there i li)));
      }
