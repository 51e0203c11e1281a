-- What rows state of what they are about, where each number of a row was looked up, and the cells and facets of a scene that they are
-- about.
--
-- The numbers below the limit that have something, as live cells or open sides, have each another key, and a rising list of a scene has
-- exactly these keys (IsCovered). So a row with a number below the limit is about one of the list (all_there), and one without is about
-- none, since what is there was looked up (stray_first). What is at a number is what the rows say of its key (is_said): the row with the
-- key has the number, and where no row has it no row has the number. This is one argument for labels and for amounts, of cells and of
-- sides.
use Rattle.std.proofs.Common.{ℕ, ◌≡◌, ◌≢◌, ◌+◌, ◌*◌, ◌/◌, ◌%◌, ◌<◌, ◌≤◌, refl, ap, ap₂, sym, subst, ◌∙◌, arith, Bool, true, false, not}
use Rattle.std.proofs.Common.{Option, Some, None, List, [], length, map, get_or, slice_index, All, AllPairs, Contains}
use Rattle.std.proofs.lemmas.Bool.{false≢true, not-true}
use Rattle.std.proofs.lemmas.List.{get_or_default}
use Rattle.std.proofs.lemmas.List.Sorted.{IsPermutation-refl, Contains-permutation}
use Rattle.cell_net.specs.Arcs.{across, is_free}
use Rattle.certificate.specs.Certificates.{Claim, IsWellFormed}
use Rattle.certificate.specs.declared.certificate.FlowRow.{FlowRow}
use Rattle.certificate.specs.declared.certificate.SinkRow.{SinkRow}
use Rattle.flow_net.specs.Firsts.{IsFirst}
use Rattle.flow_net.specs.Nets.{flag_at}
use Rattle.geo_sign.specs.Rising.{IsBefore}
use Rattle.geo_sign.specs.Tetrahedron.{facet_at, facet_of}
use Rattle.solution.specs.Solutions.{flow_on, sink_at}
use Rattle.tetra_store.specs.Links.{links_of, slot_at, IsLive}
use Rattle.tetra_store.specs.Stored.{live_of}
use Rattle.tetra_store.specs.declared.link.Cell.{Cell}
use Rattle.tetra_store.proofs.Observed.{next_live, slot_in}
use Rattle.visibility.specs.Complexes.{Complex}
use Rattle.visibility.specs.Listings.{IsListingOf}
use Rattle.visibility.specs.Scenes.{Scene}
use Rattle.visibility.specs.Votes.{IsComplexOf}
use Rattle.visibility.proofs.Indices.{index_has, once_rising, same_index}
use Rattle.visibility.proofs.Listings.{facet_back}
use Rattle.visibility.proofs.Ordered.{one_complex}
use Rattle.cell_net.specs.CellRows.{facet_row, least_first}
use Rattle.cell_net.specs.Counts.{AreCountsOf, row_of}
use Rattle.cell_net.specs.Gathered.{all_rows, all_open}
use Rattle.cell_net.specs.StoredComplexes.{stored_complex}
use Rattle.cell_net.specs.Parts.{facet_of_side}
use Rattle.cell_net.specs.declared.sides.Side.{Side}
use Rattle.cell_net.proofs.StoredListings.{listing_is}
use Rattle.cell_net.proofs.CellSides.{one_cell, one_side_of}
use Rattle.cell_net.proofs.Entries.{map_has, map_gets, side_is, side_there}
use Rattle.cell_net.proofs.Nodes.{one_id}
use Rattle.cell_net.proofs.Stored.{listed}
use Rattle.surface.proofs.Listed.{cell_with, row_in}
use Rattle.recon_check.specs.Claims.{is_among_rows, is_inside, flow_facets, sink_cells, IsStray}
use Rattle.recon_check.specs.Lookups.{is_open_side, side_facet, AreNumbersApart, AreNumbersOf, AreFound}
use Rattle.recon_check.specs.Stated.{IsFlaggedFor, IsSaid, IsStatedBy}
use Rattle.recon_check.specs.declared.stated.Stated.{Stated}
use Rattle.recon_check.proofs.Lists.{among_from, among_means, not_about, stated_at}

-- ---- rows and numbers
-- the keys of what is there are those of the list, below the limit, and one key is that of one number
pub record IsCovered (list : List (List ℕ)) (limit : ℕ) (is_there : ℕ → Bool) (key_at : ℕ → List ℕ) : Type 0 where
  pub has : (j : ℕ) → is_there j ≡ true → Contains list (key_at j)
  pub from : (row : List ℕ) → Contains list row → (j : ℕ) × (is_there j ≡ true) × (key_at j ≡ row)
  pub below : (j : ℕ) → is_there j ≡ true → j < limit
  pub one : (i j : ℕ) → is_there i ≡ true → is_there j ≡ true → key_at i ≡ key_at j → i ≡ j

-- every number is below
abbrev pub AreBelow : ℕ → List ℕ → Type 0
AreBelow limit numbers = (k : ℕ) → k < length numbers → slice_index numbers k < limit

-- numbers below the limit, as they were looked up
pub record AreAllFound (limit : ℕ) (is_there : ℕ → Bool) (key_at : ℕ → List ℕ) (keys : List (List ℕ)) (numbers : List ℕ)
    : Type 0 where
  pub found : AreFound limit limit is_there key_at keys numbers
  pub below : AreBelow limit numbers

module _ {limit : ℕ} {is_there : ℕ → Bool} {key_at : ℕ → List ℕ} {keys : List (List ℕ)} {numbers : List ℕ} {list : List (List ℕ)}
    (h : AreFound limit limit is_there key_at keys numbers) (covered : IsCovered list limit is_there key_at) where
  -- a row with a number is about one of the list
  has_row : (k : ℕ) → k < length keys → slice_index numbers k < limit → Contains list (get_or keys k [])
  has_row k l m = subst (Contains list) (sym (h.key k l m)) (covered.has (slice_index numbers k) (h.there k l m))

  -- and one without is about none
  pub stray_first : (k : ℕ) → IsFirst (length numbers) (λ i. limit ≤ slice_index numbers i) k
      → IsFirst (length keys) (IsStray list keys) k
  stray_first k first =
      let l : k < length keys = let in_range = first.in_range in omega (arith, in_range, h.count) in
      record {
        in_range = l;
        has = λ there.
            (let x = covered.from (get_or keys k []) there in
            let below = h.all x.0 k (covered.below x.0 x.1) x.1 l (sym x.2) in
            let past = first.has in absurd (omega (arith, below, past)));
        none_before = λ i m stray.
            (let none = first.none_before i m in stray (has_row i (omega (arith, l, m)) (omega (arith, none))));
      }

module _ {limit : ℕ} {is_there : ℕ → Bool} {key_at : ℕ → List ℕ} {keys : List (List ℕ)} {numbers : List ℕ}
    (h : AreAllFound limit is_there key_at keys numbers) where
  in_keys : (k : ℕ) → k < length numbers → k < length keys
  in_keys k l = omega (arith, l, h.found.count)

  -- a number is of what its row is about
  pub numbers_are : AreNumbersOf is_there key_at keys numbers
  numbers_are = record {
    count = h.found.count;
    there = λ k l. h.found.there k (in_keys k l) (h.below k l);
    key = λ k l. h.found.key k (in_keys k l) (h.below k l);
  }

  -- rising rows have numbers apart
  pub numbers_apart : AllPairs IsBefore keys → AreNumbersApart numbers
  numbers_apart rising i j l m e =
      same_index keys i j (once_rising keys rising) (in_keys i l) (in_keys j m)
      (numbers_are.key i l ∙ ap key_at e ∙ sym (numbers_are.key j m))

  module _ {list : List (List ℕ)} (covered : IsCovered list limit is_there key_at) where
    pub all_there : All (Contains list) keys
    all_there k d l =
        subst (Contains list) (sym (get_or_default keys k d [] l))
        (has_row h.found covered k l (h.below k (omega (arith, l, h.found.count))))

    -- values that stand at the numbers of rows, as these say them of their keys, and are nothing elsewhere
    pub is_said : {X : Type 0} (at : ℕ → X) (says : List ℕ → X) (nothing : X)
        → ((k : ℕ) → k < length keys → at (slice_index numbers k) ≡ says (get_or keys k []))
        → ((v : ℕ) → ((k : ℕ) → k < length numbers → slice_index numbers k ≢ v) → at v ≡ nothing)
        → ((key : List ℕ) → is_among_rows keys key ≡ false → says key ≡ nothing) → IsSaid is_there key_at at says nothing
    is_said {X} at says nothing set unset other = record {
      there = λ j is. by j is (is_among_rows keys (key_at j)) refl;
      elsewhere = λ j missing.
          unset j (λ k l e. false≢true (sym missing ∙ ap is_there (sym e) ∙ numbers_are.there k l));
    }
      where
        by : (j : ℕ) → is_there j ≡ true → (b : Bool) → is_among_rows keys (key_at j) ≡ b → at j ≡ says (key_at j)
        by j is true e =
            let row = among_means keys (key_at j) e in
            let k : ℕ = row.0 in
            let l : k < length keys = row.1 in
            let m : k < length numbers = omega (arith, l, h.found.count) in
            let key : get_or keys k [] ≡ key_at j = get_or_default keys k [] (key_at j) l ∙ row.2 in
            let number : slice_index numbers k ≡ j =
            covered.one (slice_index numbers k) j (numbers_are.there k m) is (sym (numbers_are.key k m) ∙ key) in
            ap at (sym number) ∙ set k l ∙ ap says key
        by j is false e =
            unset j (λ k m same.
            let key : get_or keys k [] ≡ key_at j = numbers_are.key k m ∙ ap key_at same in
            false≢true (sym e ∙ among_from keys (key_at j)
            (subst (Contains keys) key (index_has keys k (in_keys k m)))))
            ∙ sym (other (key_at j) e)

-- so many values, of which those at the numbers are these and all others are nothing
pub record ArePlacedAt {X : Type 0} (read : List X → ℕ → X) (nothing : X) (values : ℕ → X) (numbers : List ℕ) (count : ℕ)
    (placed : List X) : Type 0 where
  pub many : length placed ≡ count
  pub set : (k : ℕ) → k < length numbers → read placed (slice_index numbers k) ≡ values k
  pub unset : (v : ℕ) → ((k : ℕ) → k < length numbers → slice_index numbers k ≢ v) → read placed v ≡ nothing

-- ---- the cells and sides of a scene
-- a neighbor that is free
opened : (fixed : List Bool) (o : Option ℕ) → is_free fixed o ≡ true → (other : ℕ) × (o ≡ Some other) × (flag_at fixed other ≡ false)
opened fixed None e = absurd (false≢true e)
opened fixed (Some other) e = (other, refl, not-true (flag_at fixed other) e)

module _ (s : Scene) (slots : List (Option Cell)) (fixed : List Bool) (flagged : IsFlaggedFor s slots fixed) where
  counts : AreCountsOf s slots flagged.crossed flagged.behind fixed
  counts = flagged.counts

  -- the cells and facets of the scene, as the store has them
  pub listing : IsListingOf s (stored_complex fixed slots)
  listing =
      listing_is s slots flagged.crossed flagged.behind fixed (all_rows slots) (all_open fixed slots) counts
      (record { moved = IsPermutation-refl (all_rows slots); moved_sides = IsPermutation-refl (all_open fixed slots) })

  open_live : (j : ℕ) → is_open_side slots fixed j ≡ true → IsLive (links_of slots) (j / 4)
  open_live j e = let o = opened fixed (across slots j) e in next_live (slot_at slots (j / 4)) (j % 4) o.0 o.1

  one_side : (i j : ℕ) → is_open_side slots fixed i ≡ true → is_open_side slots fixed j ≡ true
      → side_facet slots i ≡ side_facet slots j → i ≡ j
  one_side i j hi hj e =
      let x = i / 4 in
      let y = j / 4 in
      let v = s.vertices in
      let at = (links_of slots).at in
      let next = (links_of slots).next in
      let facets : least_first (facet_of (at x) (i % 4)) ≡ least_first (facet_of (at y) (j % 4)) = ap facet_at e in
      let lx = listed slots x (open_live i hi) in
      let ly = listed slots y (open_live j hj) in
      let same : x ≡ y = one_cell v (live_of slots) at next counts.cells x y (i % 4) (j % 4) lx ly (omega arith) (omega arith) facets in
      let here : least_first (facet_of (at x) (i % 4)) ≡ least_first (facet_of (at x) (j % 4)) =
      facets ∙ ap (λ (z : ℕ). least_first (facet_of (at z) (j % 4))) (sym same) in
      let sides : i % 4 ≡ j % 4 =
      one_side_of v (live_of slots) at next counts.cells x (i % 4) (j % 4) lx (omega arith) (omega arith) here in
      omega (arith, same, sides)

  module _ (complex : Complex) (is : IsComplexOf s complex) where
    same_complex : listing.complex ≡ complex
    same_complex = one_complex s listing.complex complex listing.complex_is is

    pub cells_covered : IsCovered complex.cells (length fixed) (links_of slots).is_live (row_of slots)
    cells_covered = record {
      has = row_in s slots counts.cells complex is;
      from = cell_with s slots counts.cells complex is;
      below = λ id l. (let low = slot_in slots id l in let flags = counts.flags.count in omega (arith, low, flags));
      one = one_id s slots fixed counts.cells counts.few;
    }

    pub sides_covered : IsCovered complex.facets (4 * length fixed) (is_open_side slots fixed) (side_facet slots)
    sides_covered = record {
      has = λ j e.
          (let o = opened fixed (across slots j) e in
          let x = side_there slots fixed (j / 4) (j % 4) o.0 (omega arith) o.1 o.2 in
          let p = side_is slots fixed x.0 x.1 in
          let row : Contains (stored_complex fixed slots).facets x.0.facet = map_gets facet_of_side (all_open fixed slots) x.0 x.1 in
          subst (Contains complex.facets) (p.is ∙ ap₂ (λ (i k : ℕ). facet_row ((links_of slots).at i) k) x.2 x.3)
          (subst (λ (c : Complex). Contains c.facets x.0.facet) same_complex
          (facet_back s (stored_complex fixed slots) listing x.0.facet row)));
      from = λ row there.
          (let back = subst (λ (c : Complex). Contains c.facets row) (sym same_complex) there in
          let image = map_has facet_of_side (all_open fixed slots) row
          (Contains-permutation listing.complex.facets (stored_complex fixed slots).facets row listing.facets_are back) in
          let x : Side = image.from in
          let p = side_is slots fixed x image.listed in
          let k = p.in_range in
          let id : (4 * x.id + x.side) / 4 ≡ x.id = omega (arith, k) in
          let side : (4 * x.id + x.side) % 4 ≡ x.side = omega (arith, k) in (
            4 * x.id + x.side,
            ap (is_free fixed) (ap₂ (λ (i m : ℕ). (links_of slots).next i m) id side ∙ p.next) ∙ ap not p.free,
            ap₂ (λ (i m : ℕ). facet_row ((links_of slots).at i) m) id side ∙ sym p.is ∙ image.is,
          ));
      below = λ j e.
          (let low = slot_in slots (j / 4) (open_live j e) in let flags = counts.flags.count in omega (arith, low, flags));
      one = one_side;
    }

  -- ---- all that is stated
  pub is_stated : (claim : Claim) → IsWellFormed claim → (stated : Stated)
      → AreAllFound (length fixed) (links_of slots).is_live (row_of slots) claim.inside stated.cells.items
      → AreAllFound (4 * length fixed) (is_open_side slots fixed) (side_facet slots) (flow_facets claim) stated.sides.items
      → AreAllFound (length fixed) (links_of slots).is_live (row_of slots) (sink_cells claim) stated.at_sinks.items
      → ArePlacedAt flag_at false (λ k. true) stated.cells.items (length fixed) stated.labels.inside
      → ArePlacedAt slice_index 0 (slice_index (map (λ (row : FlowRow). row.amount) claim.flow)) stated.sides.items
      (4 * length fixed) stated.flow.on_arc
      → ArePlacedAt slice_index 0 (slice_index (map (λ (row : SinkRow). row.amount) claim.sink)) stated.at_sinks.items
      (length fixed) stated.flow.on_sink
      → IsStatedBy slots fixed claim stated
  is_stated claim formed stated cells sides sinks labels on_arc on_sink = record {
    labels = labels.many;
    arcs = on_arc.many;
    sinks = on_sink.many;
    labels_say =
        is_said cells covered (flag_at stated.labels.inside) (is_inside claim) false
        (λ k l. labels.set k (omega (arith, l, cells.found.count))
        ∙ sym (among_from claim.inside (get_or claim.inside k []) (index_has claim.inside k l))) labels.unset (λ key e. e);
    arcs_say =
        is_said sides (sides_covered listing.complex listing.complex_is) (slice_index stated.flow.on_arc) (flow_on claim) 0
        (λ k l. on_arc.set k (omega (arith, l, sides.found.count))
        ∙ sym (stated_at (λ (r : FlowRow). r.facet) (λ (r : FlowRow). r.amount) claim.flow formed.flow.rising k l)) on_arc.unset
        (not_about (λ (r : FlowRow). r.facet) (λ (r : FlowRow). r.amount) claim.flow);
    sinks_say =
        is_said sinks covered (slice_index stated.flow.on_sink) (sink_at claim) 0
        (λ k l. on_sink.set k (omega (arith, l, sinks.found.count))
        ∙ sym (stated_at (λ (r : SinkRow). r.cell) (λ (r : SinkRow). r.amount) claim.sink formed.sink.rising k l)) on_sink.unset
        (not_about (λ (r : SinkRow). r.cell) (λ (r : SinkRow). r.amount) claim.sink);
    cells_are = numbers_are cells;
    sides_are = numbers_are sides;
    sinks_are = numbers_are sinks;
  }
    where
      covered : IsCovered listing.complex.cells (length fixed) (links_of slots).is_live (row_of slots)
      covered = cells_covered listing.complex listing.complex_is
