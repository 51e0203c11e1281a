-- Faults by the numbers of cells and sides, said over cells and facets.
--
-- The labels and the flow are tested in the network by numbers of the linked cells; a reason speaks of cells and facets in rising order.
-- Between the two stands the network without the numbers of no cell or no facet. Its numbers correspond to cells and facets as the store
-- has them (SceneNetwork), whose order decides nothing, so to the rising ones as well (by_row). Labels and amounts are the same of a cell
-- or a facet as of its number, and nothing at all others (IsStatedBy), so what enters and leaves a cell is the same as well (in_is,
-- out_is), and a flow is valid by number where it is over cells and facets (numbered_valid). A row that states too much is found by the
-- row, and rows rise, so its cell or facet is the first (KeyedRows). A cell that is not balanced is the first where its row is the least
-- (KeyOrders).
use Rattle.std.proofs.Common.{ℕ, ◌≡◌, ◌≢◌, ◌<◌, ◌≤◌, ◌+◌, ◌*◌, ◌/◌, ◌==◌, ◌↔◌, ⊎_elim, refl, ap, sym, subst, ◌∙◌}
use Rattle.std.proofs.Common.{arith, Bool, true, false, cond, List, [], length, get_or, All, Contains, Option}
use Rattle.std.proofs.lemmas.Bool.{cases_Bool, cases_eq, cond-true, false_from_ne_true, true_from_ne_false, false≢true}
use Rattle.std.proofs.lemmas.List.Sorted.{IsPermutation-sym, Contains-permutation, sum_by-IsPermutation}
use Rattle.std.specs.List.Sorted.{IsPermutation}
use Rattle.cell_net.specs.declared.network.CellNetwork.{CellNetwork}
use Rattle.certificate.specs.Certificates.{Claim}
use Rattle.certificate.specs.declared.certificate.FlowRow.{FlowRow}
use Rattle.certificate.specs.declared.certificate.SinkRow.{SinkRow}
use Rattle.flow_net.specs.Firsts.{NoneBelow}
use Rattle.flow_net.specs.Faults.{IsFixedInside, IsOverCapacity, sink_limit, IsOverSink, total_out, IsUnbalanced, IsNotLeast}
use Rattle.flow_net.specs.Faults.{AreWithinLimits}
use Rattle.flow_net.specs.Nets.{flag_at}
use Rattle.flow_net.specs.Networks.{Network, amount_in, IsValidFlow as IsValid}
use Rattle.flow_net.specs.Numbered.{NumberedNetwork, network_by}
use Rattle.flow_net.specs.NumberedFlows as numbered
use Rattle.flow_net.specs.Paddings.{IsJudgedAlike, IsPadding, kept}
use Rattle.flow_net.specs.Sums.{sum_below}
use Rattle.flow_net.specs.declared.Labels.{Labels}
use Rattle.flow_net.proofs.Correspondences as judged
use Rattle.flow_net.proofs.Correspondences.{Corresponds, SameAtNodes, SameOnArcs}
use Rattle.flow_net.proofs.Duality.{equal_is_best}
use Rattle.flow_net.proofs.PaddingLemmas.{padding_law}
use Rattle.flow_net.proofs.SumLemmas.{sum_below-cong, cond-zeros}
use Rattle.geo_sign.proofs.CellRows.{last_below}
use Rattle.geo_sign.specs.Rising.{IsBefore}
use Rattle.geo_sign.specs.Tetrahedron.{Tetrahedron, DirectedFacet, facet_at, turned}
use Rattle.line_text.proofs.Rows.{before_trans}
use Rattle.solution.specs.Solutions.{flow_on, sink_at}
use Rattle.tetra_store.specs.declared.link.Cell.{Cell}
use Rattle.tetra_store.specs.Links.{links_of, IsLive}
use Rattle.tetra_store.proofs.Observed.{slot_in}
use Rattle.visibility.specs.Scenes.{Scene}
use Rattle.visibility.specs.Complexes.{Complex, HasFacet, cell_of}
use Rattle.visibility.specs.Cuts.{network_over, cost, IsAdmissible, IsLeastInside}
use Rattle.visibility.specs.Flows.{value, IsValidFlow}
use Rattle.visibility.specs.Listings.{IsListingOf}
use Rattle.visibility.specs.Votes.{HasCapacity}
use Rattle.visibility.proofs.Indices.{at_index, index_has, not_before_itself}
use Rattle.visibility.proofs.Ordered.{one_complex}
use Rattle.cell_net.specs.CellRows.{risen}
use Rattle.cell_net.specs.Counts.{row_of}
use Rattle.cell_net.specs.Gathered.{row_key}
use Rattle.cell_net.specs.StoredComplexes.{stored_complex}
use Rattle.cell_net.proofs.KeyOrders.{AreSmall, rows_before}
use Rattle.cell_net.proofs.SceneNetwork as scene
use Rattle.surface.proofs.Listed as listed
use Rattle.recon_check.specs.ByRows.{numbers, IsFixedAt, IsOverAt, IsOverSinkAt, IsOutsideAt, IsLeastUnbalance}
use Rattle.recon_check.specs.ByRows.{IsUnbalanced as IsUnbalancedAt}
use Rattle.recon_check.specs.Claims.{is_inside, flow_facets, sink_cells, IsFirstOf, NoneOf}
use Rattle.recon_check.specs.Faults.{IsCertified, IsBest}
use Rattle.recon_check.specs.Lookups.{is_open_side, side_facet, AreNumbersOf}
use Rattle.recon_check.specs.Over.{IsStatedOver}
use Rattle.recon_check.specs.declared.balance.Unbalance.{Unbalance}
use Rattle.recon_check.specs.declared.stated.Stated.{Stated}
use Rattle.recon_check.proofs.KeyedRows.{AreTold}
use Rattle.recon_check.proofs.Lists.{among_from, among_means, about_one}

-- an amount that is 0 where a test fails is the same under the test
pub dropped : (b there : Bool) (n : ℕ) → (there ≡ false → n ≡ 0) → cond b n 0 ≡ cond there (cond b n 0) 0
dropped b true n h = refl
dropped b false n h = ap (λ (m : ℕ). cond b m 0) (h refl) ∙ cond-zeros b

same_from : (m n : ℕ) → ¬ (m ≢ n) → m ≡ n
same_from m n not = ⊎_elim (λ (e : m ≡ n). e) (λ (d : m ≢ n). absurd (not d)) (cases_eq m n)

limit_below : (b : Bool) (n : ℕ) → cond b 0 n ≤ n
limit_below true n = omega arith
limit_below false n = omega arith

-- labels with no fixed cell inside are admissible
pub admissible_from : (s : Scene) (complex : Complex) (claim : Claim)
    → NoneOf complex.cells (IsFixedInside (network_over s complex) (is_inside claim)) → IsAdmissible s complex (is_inside claim)
admissible_from s complex claim none = record {
  none_fixed = λ row there fixed. false_from_ne_true (is_inside claim row) (λ inside. none row there (fixed, inside));
}

-- what a number of a row is of
at_row : {is_there : ℕ → Bool} {key_at : ℕ → List ℕ} {rows : List (List ℕ)} {numbers : List ℕ}
    → AreNumbersOf is_there key_at rows numbers → (k : ℕ) → k < length rows
    → (is_there (get_or numbers k 0) ≡ true) × (key_at (get_or numbers k 0) ≡ get_or rows k [])
at_row {numbers = numbers} are k l =
    let m : k < length numbers = omega (arith, l, are.count) in (are.there k m, sym (are.key k m))

module _ (s : Scene) (complex : Complex) (net : CellNetwork) (claim : Claim) (stated : Stated)
    (over : IsStatedOver s complex net claim stated) where
  abbrev slots : List (Option Cell)
  slots = net.tetra.now.slots

  abbrev fixed : List Bool
  fixed = net.counts.fixed.now

  abbrev on_arc : ℕ → ℕ
  on_arc j = get_or stated.flow.on_arc j 0

  abbrev on_sink : ℕ → ℕ
  on_sink v = get_or stated.flow.on_sink v 0

  abbrev number : NumberedNetwork
  number = numbers net

  abbrev real : ℕ → Bool
  real = (links_of slots).is_live

  abbrev there : ℕ → Bool
  there = is_open_side slots fixed

  abbrev near : Network ℕ ℕ
  near = kept number real there

  abbrev stored : Complex
  stored = stored_complex fixed slots

  abbrev far : Network (List ℕ) (List ℕ)
  far = network_over s complex

  abbrev inside : List ℕ → Bool
  inside = is_inside claim

  padding : IsPadding number real there
  padding = scene.padding s slots net.counts.crossed.now net.counts.behind.now fixed net.settings over.counts net.shape over.settings

  alike : IsJudgedAlike (network_by number) near
  alike = padding_law number real there padding

  abbrev by_cell : Corresponds near (network_over s stored)
  by_cell = scene.by_cell s slots net.counts.crossed.now net.counts.behind.now fixed net.settings over.counts net.shape over.settings

  -- ---- cells and facets by their numbers
  live_row : (v : ℕ) → IsLive (links_of slots) v → Contains complex.cells (row_of slots v)
  live_row v live = listed.row_in s slots over.counts.cells complex over.complex_is v live

  row_live : (row : List ℕ) → Contains complex.cells row → (v : ℕ) × IsLive (links_of slots) v × (row_of slots v ≡ row)
  row_live row has = listed.cell_with s slots over.counts.cells complex over.complex_is row has

  node : (v : ℕ) → IsLive (links_of slots) v → (v < length fixed) × (real v ≡ true)
  node v live = let low = slot_in slots v live in (omega (arith, low, net.shape.flags), live)

  arc : (j : ℕ) → there j ≡ true → (j < 4 * length fixed) × (there j ≡ true)
  arc j is =
      let live =
      scene.live_before s slots net.counts.crossed.now net.counts.behind.now fixed net.settings over.counts net.shape over.settings
      j is in
      let low = slot_in slots (j / 4) live in (omega (arith, low, net.shape.flags), is)

  -- the rising lists are those of the store in another order
  listing : IsListingOf s stored
  listing =
      scene.stored_listing s slots net.counts.crossed.now net.counts.behind.now fixed net.settings over.counts net.shape over.settings

  same_complex : listing.complex ≡ complex
  same_complex = one_complex s listing.complex complex listing.complex_is over.complex_is

  cells_are : IsPermutation complex.cells stored.cells
  cells_are = subst (λ (x : Complex). IsPermutation x.cells stored.cells) same_complex listing.cells_are

  facets_are : IsPermutation complex.facets stored.facets
  facets_are = subst (λ (x : Complex). IsPermutation x.facets stored.facets) same_complex listing.facets_are

  cell_is : (f : DirectedFacet) → HasFacet s.vertices complex.cells f
      → cell_of s.vertices stored.cells f ≡ cell_of s.vertices complex.cells f
  cell_is =
      subst
      (λ (x : Complex). (f : DirectedFacet) → HasFacet s.vertices x.cells f
      → cell_of s.vertices stored.cells f ≡ cell_of s.vertices x.cells f) same_complex listing.same_cell

  facet_in : (j : ℕ) → near.HasArc j → Contains complex.facets (side_facet slots j)
  facet_in j is =
      Contains-permutation stored.facets complex.facets (side_facet slots j)
      (IsPermutation-sym complex.facets stored.facets facets_are) (by_cell.arc_there j is)

  facet_has : (j : ℕ) → near.HasArc j → HasCapacity s complex.cells (side_facet slots j)
  facet_has j is = over.complex_is.facets_are.only (side_facet slots j) (facet_in j is)

  -- so numbers correspond to these as well
  abbrev by_row : Corresponds near far
  by_row = record {
    node = by_cell.node;
    back = by_cell.back;
    arc = by_cell.arc;
    node_there = λ v is. live_row v is.1;
    back_there = λ p has. by_cell.back_there p (Contains-permutation complex.cells stored.cells p cells_are has);
    node_back = by_cell.node_back;
    back_node = λ p has. by_cell.back_node p (Contains-permutation complex.cells stored.cells p cells_are has);
    arc_there = facet_in;
    arc_of = λ f has. by_cell.arc_of f (Contains-permutation complex.facets stored.facets f facets_are has);
    node_sums = λ f g h. by_cell.node_sums f g h ∙ sum_by-IsPermutation g complex.cells stored.cells cells_are;
    arc_sums = λ f g h. by_cell.arc_sums f g h ∙ sum_by-IsPermutation g complex.facets stored.facets facets_are;
    from_there = by_cell.from_there;
    to_there = by_cell.to_there;
    from_is = λ j is. by_cell.from_is j is ∙ cell_is (facet_at (side_facet slots j)) (facet_has j is).own;
    to_is = λ j is. by_cell.to_is j is ∙ cell_is (turned (facet_at (side_facet slots j))) (facet_has j is).across;
    same_is = by_cell.same_is;
    capacity_is = by_cell.capacity_is;
    fixed_is = by_cell.fixed_is;
    sink_is = by_cell.sink_is;
  }

  on_arcs : SameOnArcs by_row on_arc (flow_on claim)
  on_arcs j is = over.stated_is.arcs_say.there j is.1

  at_sinks : SameAtNodes by_row on_sink (sink_at claim)
  at_sinks v is = over.stated_is.sinks_say.there v is.1

  labelled : SameAtNodes by_row (flag_at stated.labels.inside) inside
  labelled v is = over.stated_is.labels_say.there v is.1

  -- ---- what enters and leaves a cell
  -- sides without a free cell across add nothing
  none_dropped : (is_end : ℕ → Bool)
      → sum_below number.arc_count (λ j. cond (is_end j) (on_arc j) 0)
      ≡ sum_below number.arc_count (λ j. cond (there j) (cond (is_end j) (on_arc j) 0) 0)
  none_dropped is_end =
      sum_below-cong number.arc_count (λ j. cond (is_end j) (on_arc j) 0) (λ j. cond (there j) (cond (is_end j) (on_arc j) 0) 0)
      (λ j l. dropped (is_end j) (there j) (on_arc j) (over.stated_is.arcs_say.elsewhere j))

  pub in_is : (v : ℕ) → IsLive (links_of slots) v
      → amount_in (network_by number) on_arc v ≡ amount_in far (flow_on claim) (row_of slots v)
  in_is v live =
      none_dropped (λ j. number.to j == v) ∙ judged.amount_in_is near far by_row on_arc (flow_on claim) on_arcs v (node v live)

  pub out_is : (v : ℕ) → IsLive (links_of slots) v
      → total_out (network_by number) on_arc on_sink v ≡ total_out far (flow_on claim) (sink_at claim) (row_of slots v)
  out_is v live =
      ap (λ (n : ℕ). n + on_sink v) (none_dropped (λ j. number.from j == v))
      ∙ judged.total_out_is near far by_row on_arc (flow_on claim) on_sink (sink_at claim) on_arcs at_sinks v (node v live)

  -- ---- rows that state what must not be
  row_inside : (k : ℕ) → k < length claim.inside → inside (get_or claim.inside k []) ≡ true
  row_inside k l = among_from claim.inside (get_or claim.inside k []) (index_has claim.inside k l)

  pub fixed_rows : All (Contains complex.cells) claim.inside
      → AreTold claim.inside complex.cells stated.cells.items (IsFixedAt number) (IsFixedInside far inside)
  fixed_rows all = record {
    count = over.stated_is.cells_are.count;
    rising = over.formed.inside.rising;
    keys_rise = over.complex_is.cells_are.rising;
    there = all;
    has_row = λ key has h. among_means claim.inside key h.1;
    same = λ k l.
        (let at = at_row over.stated_is.cells_are k l in
        let is = by_row.fixed_is (get_or stated.cells.items k 0) (node _ at.0) ∙ ap far.is_fixed at.1 in
        (λ e. (sym is ∙ e, row_inside k l), λ h. is ∙ h.0));
  }

  pub side_capacity : (k : ℕ) → k < length (flow_facets claim)
      → number.capacity (get_or stated.sides.items k 0) ≡ far.capacity (get_or (flow_facets claim) k [])
  side_capacity k l =
      let at = at_row over.stated_is.sides_are k l in
      by_row.capacity_is (get_or stated.sides.items k 0) (arc _ at.0) ∙ ap far.capacity at.1

  pub over_rows : All (Contains complex.facets) (flow_facets claim)
      → AreTold (flow_facets claim) complex.facets stated.sides.items (λ sides. IsOverAt number sides stated.flow.on_arc)
      (IsOverCapacity far (flow_on claim))
  over_rows all = record {
    count = over.stated_is.sides_are.count;
    rising = over.formed.flow.rising;
    keys_rise = over.complex_is.facets_are.rising;
    there = all;
    has_row = λ key has h.
        about_one (λ (row : FlowRow). row.facet) (λ (row : FlowRow). row.amount) claim.flow key (λ none. omega (arith, h, none));
    same = λ k l.
        (let at = at_row over.stated_is.sides_are k l in
        let cap = side_capacity k l in
        let on = on_arcs (get_or stated.sides.items k 0) (arc _ at.0) ∙ ap (flow_on claim) at.1 in
        (λ h. omega (arith, h, cap, on), λ h. omega (arith, h, cap, on)));
  }

  pub sink_limit_at : (k : ℕ) → k < length (sink_cells claim)
      → sink_limit (network_by number) (get_or stated.at_sinks.items k 0) ≡ sink_limit far (get_or (sink_cells claim) k [])
  sink_limit_at k l =
      let at = at_row over.stated_is.sinks_are k l in
      judged.sink_limit_is near far by_row (get_or stated.at_sinks.items k 0) (node _ at.0) ∙ ap (sink_limit far) at.1

  pub sink_rows : All (Contains complex.cells) (sink_cells claim)
      → AreTold (sink_cells claim) complex.cells stated.at_sinks.items (λ nodes. IsOverSinkAt number nodes stated.flow.on_sink)
      (IsOverSink far (sink_at claim))
  sink_rows all = record {
    count = over.stated_is.sinks_are.count;
    rising = over.formed.sink.rising;
    keys_rise = over.complex_is.cells_are.rising;
    there = all;
    has_row = λ key has h.
        about_one (λ (row : SinkRow). row.cell) (λ (row : SinkRow). row.amount) claim.sink key (λ none. omega (arith, h, none));
    same = λ k l.
        (let at = at_row over.stated_is.sinks_are k l in
        let limit = sink_limit_at k l in
        let on = at_sinks (get_or stated.at_sinks.items k 0) (node _ at.0) ∙ ap (sink_at claim) at.1 in
        (λ h. omega (arith, h, limit, on), λ h. omega (arith, h, limit, on)));
  }

  -- ---- balance
  unbalanced_is : (v : ℕ) → IsLive (links_of slots) v
      → IsUnbalancedAt net stated.flow v ↔ IsUnbalanced far (flow_on claim) (sink_at claim) (row_of slots v)
  unbalanced_is v live =
      let fixed_is = by_row.fixed_is v (node v live) in
      let entering = in_is v live in
      let leaving = out_is v live in (
        λ h. (sym fixed_is ∙ h.0, λ e. h.1 (entering ∙ e ∙ sym leaving)),
        λ h. (fixed_is ∙ h.0, λ e. h.1 (sym entering ∙ e ∙ leaving)),
      )

  small_row : (v : ℕ) → IsLive (links_of slots) v → AreSmall (risen ((links_of slots).at v))
  small_row v live =
      let t : Tetrahedron = risen ((links_of slots).at v) in
      let h = over.complex_is.cells_are.cells (row_of slots v) (live_row v live) in
      let last = last_below s.vertices t.a t.b t.c t.d h.3 in
      let few = over.counts.few in
      let x = h.0 in
      let y = h.1 in
      let z = h.2 in
      record {
        a = omega (arith, x, y, z, last, few);
        b = omega (arith, y, z, last, few);
        c = omega (arith, z, last, few);
        d = omega (arith, last, few);
      }

  -- no cell with a greater key comes before
  not_before : (v w : ℕ) → IsLive (links_of slots) v → IsLive (links_of slots) w
      → row_key (row_of slots v) ≤ row_key (row_of slots w) → ¬ IsBefore (row_of slots w) (row_of slots v)
  not_before v w lv lw le before =
      ⊎_elim
      (λ (h : IsBefore (row_of slots v) (row_of slots w)).
      not_before_itself (row_of slots w) (before_trans (row_of slots w) (row_of slots v) (row_of slots w) before h))
      (λ (e : row_of slots v ≡ row_of slots w).
      not_before_itself (row_of slots w) (subst (λ (r : List ℕ). IsBefore (row_of slots w) r) e before))
      (rows_before (risen ((links_of slots).at v)) (risen ((links_of slots).at w)) (small_row v lv) (small_row w lw) le)

  pub first_unbalanced : (found : Unbalance) → IsLeastUnbalance net stated.flow found
      → IsFirstOf complex.cells (IsUnbalanced far (flow_on claim) (sink_at claim)) found.cell
  first_unbalanced found h =
      let at = h.at in
      let has = live_row h.node at.live in
      let here : get_or complex.cells has.0 [] ≡ row_of slots h.node = at_index complex.cells (row_of slots h.node) has in
      record {
        place = has.0;
        first = record {
          in_range = has.1;
          has =
              subst (IsUnbalanced far (flow_on claim) (sink_at claim)) (sym here)
              ((unbalanced_is h.node at.live).0 at.unbalanced);
          none_before = λ i m q.
              let l = has.1 in
              let x = row_live (get_or complex.cells i []) (index_has complex.cells i (omega (arith, m, l))) in
              let least : row_key found.cell ≤ row_key (row_of slots x.0) =
              h.least x.0 (node x.0 x.1).0
              ((unbalanced_is x.0 x.1).1 (subst (IsUnbalanced far (flow_on claim) (sink_at claim)) (sym x.2) q)) in
              not_before h.node x.0 at.live x.1
              (subst (λ (r : List ℕ). row_key r ≤ row_key (row_of slots x.0)) at.cell_is least)
              (subst (λ (r : List ℕ). IsBefore r (row_of slots h.node)) (sym x.2)
              (subst (λ (r : List ℕ). IsBefore (get_or complex.cells i []) r) here
              (over.complex_is.cells_are.rising i has.0 [] m l)));
        };
        row_is = at.cell_is ∙ sym here;
      }

  pub valid_from : AreWithinLimits far inside (flow_on claim) (sink_at claim)
      → NoneBelow (length fixed) (IsUnbalancedAt net stated.flow) → IsValidFlow s complex (flow_on claim) (sink_at claim)
  valid_from within none = record {
    within_cap = λ f has. let low = within.within_arcs.within_caps f has in omega (arith, low);
    within_sink = λ row has.
        let low = within.within_sinks row has in
        let limit = limit_below (far.is_fixed row) (far.sink row) in
        omega (arith, low, limit);
    none_fixed = λ row has e.
        let low = within.within_sinks row has in
        let limit = cond-true (far.is_fixed row) 0 (far.sink row) e in
        omega (arith, low, limit);
    balanced = λ row has e.
        let x = row_live row has in
        same_from _ _
        (λ d. none x.0 (node x.0 x.1).0
        ((unbalanced_is x.0 x.1).1 (subst (IsUnbalanced far (flow_on claim) (sink_at claim)) (sym x.2) (e, d))));
  }

  -- ---- value and cost
  pub value_is : numbered.value_of number stated.flow ≡ value s complex (sink_at claim)
  value_is = alike.value_is on_sink ∙ judged.value_is near far by_row on_sink (sink_at claim) at_sinks

  pub cost_is : numbered.cost_of number stated.labels ≡ cost s complex inside
  cost_is =
      alike.cost_is (flag_at stated.labels.inside) ∙ judged.cost_is near far by_row (flag_at stated.labels.inside) inside labelled

  -- ---- by number what it is over cells and facets
  numbered_valid : IsValidFlow s complex (flow_on claim) (sink_at claim) → numbered.IsValidFlow number stated.flow
  numbered_valid valid =
      let v : IsValid near on_arc on_sink =
      (judged.valid near far by_row on_arc (flow_on claim) on_sink (sink_at claim) on_arcs at_sinks).1 valid in
      record {
        arc_count = over.stated_is.arcs;
        node_count = over.stated_is.sinks;
        amounts = record {
          within_cap = λ j l.
              ⊎_elim (λ (e : there j ≡ true). v.within_cap j (l, e))
              (λ (e : there j ≡ false). let none = over.stated_is.arcs_say.elsewhere j e in omega (arith, none))
              (cases_Bool (there j));
          within_sink = λ w l.
              ⊎_elim (λ (e : real w ≡ true). v.within_sink w (l, e))
              (λ (e : real w ≡ false). let none = over.stated_is.sinks_say.elsewhere w e in omega (arith, none))
              (cases_Bool (real w));
          none_fixed = λ w l f.
              ⊎_elim (λ (e : real w ≡ true). v.none_fixed w (l, e) f)
              (λ (e : real w ≡ false). over.stated_is.sinks_say.elsewhere w e) (cases_Bool (real w));
          balanced = λ w l f.
              ⊎_elim
              (λ (e : real w ≡ true). none_dropped (λ j. number.to j == w) ∙ v.balanced w (l, e) f
              ∙ ap (λ (n : ℕ). n + on_sink w) (sym (none_dropped (λ j. number.from j == w))))
              (λ (e : real w ≡ false). absurd (false≢true (sym f ∙ padding.fixed w l e))) (cases_Bool (real w));
        };
      }

  numbered_admissible : IsAdmissible s complex inside → numbered.IsAdmissible number stated.labels
  numbered_admissible admissible =
      let n = (judged.admissible near far by_row (flag_at stated.labels.inside) inside labelled).1 admissible in
      record {
        count = over.stated_is.labels;
        labelled = record {
          none_fixed = λ w l f.
              ⊎_elim (λ (e : real w ≡ true). n.none_fixed w (l, e) f)
              (λ (e : real w ≡ false). over.stated_is.labels_say.elsewhere w e) (cases_Bool (real w));
        };
      }

  pub largest : IsCertified s complex claim → numbered.IsLargest number stated.flow
  largest c =
      (equal_is_best number stated.flow stated.labels (numbered_valid c.valid) (numbered_admissible c.admissible)
      (value_is ∙ c.equal ∙ sym cost_is)).0

  -- ---- the least-inside labels
  module _ (certified : IsCertified s complex claim) (least : Labels) (is : numbered.IsLeastInside number least)
      (equal : numbered.cost_of number least ≡ numbered.value_of number stated.flow) where
    abbrev test : List ℕ → Bool
    test row = flag_at least.inside (by_row.back row)

    says : SameAtNodes by_row (flag_at least.inside) test
    says v is = ap (flag_at least.inside) (sym (by_row.node_back v is))

    test_least : IsLeastInside s complex test
    test_least =
        (judged.least_inside near far by_row (flag_at least.inside) test says).0
        (alike.least_inside (flag_at least.inside) is.labelled)

    test_cost : cost s complex test ≡ cost s complex inside
    test_cost =
        sym (alike.cost_is (flag_at least.inside) ∙ judged.cost_is near far by_row (flag_at least.inside) test says)
        ∙ equal ∙ value_is ∙ certified.equal

    -- a cell that these labels have outside is outside by all least-inside labels
    outside_of : (row : List ℕ) → Contains complex.cells row → inside row ≡ true → test row ≡ false → IsNotLeast far inside row
    outside_of row has i out other other_least = (
      i,
      false_from_ne_true (other row)
          (λ e. false≢true (sym out ∙ other_least.within test test_least.least_cost row has e)),
    )

    pub least_rows : AreTold claim.inside complex.cells stated.cells.items (IsOutsideAt least.inside) (IsNotLeast far inside)
    least_rows = record {
      count = over.stated_is.cells_are.count;
      rising = over.formed.inside.rising;
      keys_rise = over.complex_is.cells_are.rising;
      there = certified.there.inside;
      has_row = λ key has h. among_means claim.inside key (h test test_least).0;
      same = λ k l.
          (let at = at_row over.stated_is.cells_are k l in
          let is_same = says (get_or stated.cells.items k 0) (node _ at.0) ∙ ap test at.1 in (
            λ out. outside_of (get_or claim.inside k []) (certified.there.inside k [] l) (row_inside k l) (sym is_same ∙ out),
            λ h. is_same ∙ (h test test_least).1,
          ));
    }

    pub best : NoneOf complex.cells (IsNotLeast far inside) → IsBest s complex claim
    best none_of = record {
      certified = certified;
      least = record {
        least_cost = record {
          admissible = certified.admissible;
          least = λ other fits. let low = test_least.least_cost.least other fits in omega (arith, low, test_cost);
        };
        within = λ other other_least row has i.
            test_least.within other other_least row has
            (true_from_ne_false (test row) (λ out. none_of row has (outside_of row has i out)));
      };
    }
