-- A minimum cut of the network of linked cells and counts is one of the scene whose counts they are.
--
-- That network judges labels and flows as the scene's does (store_network_law), so they are over the store's complex what they are by
-- number. Each list by number says of cells and sides what a function of their rows and facets says (says_of_cells, says_of_sides).
use Rattle.std.proofs.Common.{ℕ, ◌≡◌, ◌<◌, ◌^◌, ◌∙◌, sym, arith, Bool, List, Option, slice_index}
use Rattle.cell_net.specs.Arcs.{IsShape}
use Rattle.cell_net.specs.Shape.{numbered_with}
use Rattle.flow_net.specs.Nets.{flag_at}
use Rattle.flow_net.specs.NumberedFlows.{IsValidFlow, IsLeastInside, cost_of, value_of}
use Rattle.flow_net.specs.declared.Flow.{Flow}
use Rattle.flow_net.specs.declared.Labels.{Labels}
use Rattle.flow_net.specs.declared.votes.Settings.{Settings}
use Rattle.scan_rows.specs.Shown.{Shown, IsShown}
use Rattle.solution.specs.Scans.{scene_of_scan}
use Rattle.solution.proofs.LeastCosts.{least_cost_law}
use Rattle.tetra_store.specs.declared.link.Cell.{Cell}
use Rattle.visibility.specs.Listings.{AgreeInAnyOrder}
use Rattle.visibility.specs.Scenes.{Scene}
use Rattle.visibility.proofs.ListingAgreements.{with_rising}
use Rattle.cell_net.specs.Counts.{AreCountsOf}
use Rattle.cell_net.specs.StoreLaws.{IsStoreNetwork}
use Rattle.cell_net.specs.StoredComplexes.{stored_complex}
use Rattle.cell_net.proofs.StoreLaws.{store_network_law}
use Rattle.cell_net.proofs.SceneNetwork.{back, side_of, says_of_cells, says_of_sides}
use Rattle.solution.specs.MinimumCuts.{IsCutOf}
use Rattle.solution.specs.declared.cutting.MinimumCut.{MinimumCut}

pub cut_is : (s : Scene) (slots : List (Option Cell)) (crossed behind : List ℕ) (fixed : List Bool) (settings : Settings)
    (asked : AreCountsOf s slots crossed behind fixed) (shape : IsShape slots crossed behind fixed settings) (same : s.settings ≡ settings)
    (flow : Flow) (labels : Labels) (cost : ℕ) → IsValidFlow (numbered_with slots crossed behind fixed settings shape) flow
    → IsLeastInside (numbered_with slots crossed behind fixed settings shape) labels
    → cost_of (numbered_with slots crossed behind fixed settings shape) labels
    ≡ value_of (numbered_with slots crossed behind fixed settings shape) flow
    → cost ≡ cost_of (numbered_with slots crossed behind fixed settings shape) labels
    → IsCutOf s slots (record { labels = labels; flow = flow; cost = cost })
cut_is s slots crossed behind fixed settings asked shape same flow labels cost valid least equal is =
    let judged : IsStoreNetwork s slots fixed (numbered_with slots crossed behind fixed settings shape) =
    store_network_law s slots crossed behind fixed settings asked shape same in
    let cell : List ℕ → ℕ = back s slots crossed behind fixed settings asked shape same in
    let side : List ℕ → ℕ = side_of s slots crossed behind fixed settings asked shape same in
    let inside : List ℕ → Bool = λ row. flag_at labels.inside (cell row) in
    let on_facet : List ℕ → ℕ = λ f. slice_index flow.on_arc (side f) in
    let on_cell : List ℕ → ℕ = λ row. slice_index flow.on_sink (cell row) in
    let labels_say = says_of_cells s slots crossed behind fixed settings asked shape same (flag_at labels.inside) in
    let arcs_say = says_of_sides s slots crossed behind fixed settings asked shape same (slice_index flow.on_arc) in
    let sinks_say = says_of_cells s slots crossed behind fixed settings asked shape same (slice_index flow.on_sink) in
    let cost_is = judged.cost_is labels inside labels_say in
    record {
      fixed = fixed;
      inside = inside;
      on_facet = on_facet;
      on_cell = on_cell;
      listing = judged.listing;
      labels_say = labels_say;
      cells = omega (arith, least.count, shape.flags);
      sides = omega (arith, valid.arc_count, shape.flags);
      arcs_say = arcs_say;
      zero_elsewhere = judged.zero_elsewhere flow valid;
      sinks_say = sinks_say;
      least = judged.least_inside labels inside labels_say least;
      valid = judged.valid flow on_facet on_cell arcs_say sinks_say valid;
      equal = sym cost_is ∙ equal ∙ judged.value_is flow on_cell sinks_say;
      cost_is = is ∙ cost_is;
    }

-- what it costs is small
pub cost_fits : (scan : Shown) (settings : Settings) (slots : List (Option Cell)) (cut : MinimumCut) → IsShown scan
    → IsCutOf (scene_of_scan scan settings) slots cut → cut.cost < 2 ^ 47
cost_fits scan settings slots cut shown is =
    let s : Scene = scene_of_scan scan settings in
    let order : AgreeInAnyOrder s (stored_complex is.fixed slots) is.listing.complex =
    with_rising s (stored_complex is.fixed slots) is.listing in
    let few =
    least_cost_law scan settings is.listing.complex is.inside shown is.listing.complex_is
    ((order.least_inside is.inside).0 is.least).least_cost in
    omega (arith, few, order.cost_is is.inside, is.cost_is)
