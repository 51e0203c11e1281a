-- The network by the numbers of cells and sides judges labels and flows as that over cells and facets: numbers that stand for nothing
-- decide nothing (flow_net), and the others correspond (`SceneNetwork`).
use Rattle.std.proofs.Common.{ℕ, ◌≡◌, ◌∙◌, List, Bool, Option, slice_index, refl, arith}
use Rattle.flow_net.specs.Nets.{flag_at}
use Rattle.flow_net.specs.declared.votes.Settings.{Settings}
use Rattle.flow_net.specs.Paddings.{kept}
use Rattle.flow_net.proofs.PaddingLemmas.{padding_law}
use Rattle.flow_net.proofs.Correspondences as judged
use Rattle.tetra_store.specs.declared.link.Cell.{Cell}
use Rattle.visibility.specs.Scenes.{Scene}
use Rattle.visibility.specs.Cuts.{network_over}
use Rattle.cell_net.specs.Arcs.{IsShape}
use Rattle.cell_net.specs.Counts.{AreCountsOf}
use Rattle.cell_net.specs.StoreLaws.{IsStoreNetwork, StoreNetworkLaw}
use Rattle.cell_net.proofs.SceneNetwork.{real, there, net, padding, complex, by_cell, by_arc, elsewhere, stored_listing}

store_network : (s : Scene) (slots : List (Option Cell)) (crossed behind : List ℕ) (fixed : List Bool)
    (settings : Settings)
    (asked : AreCountsOf s slots crossed behind fixed) (shape : IsShape slots crossed behind fixed settings) (same : s.settings ≡ settings)
    → IsStoreNetwork s slots fixed (net s slots crossed behind fixed settings asked shape same)
store_network s slots crossed behind fixed settings asked shape same =
    let number = net s slots crossed behind fixed settings asked shape same in
    let nodes = real s slots crossed behind fixed settings asked shape same in
    let arcs = there s slots crossed behind fixed settings asked shape same in
    let near = kept number nodes arcs in
    let far = network_over s (complex s slots crossed behind fixed settings asked shape same) in
    let alike = padding_law number nodes arcs (padding s slots crossed behind fixed settings asked shape same) in
    let c = by_cell s slots crossed behind fixed settings asked shape same in
    record {
      listing = stored_listing s slots crossed behind fixed settings asked shape same;
      cost_is = λ labels inside says.
          alike.cost_is (flag_at labels.inside)
          ∙ judged.cost_is near far c (flag_at labels.inside) inside (λ v is. says v is.1);
      least_inside = λ labels inside says least.
          (judged.least_inside near far c (flag_at labels.inside) inside (λ v is. says v is.1)).0
          (alike.least_inside (flag_at labels.inside) least.labelled);
      value_is = λ flow on_cell says. alike.value_is _ ∙ judged.value_is near far c _ on_cell (λ v is. says v is.1);
      valid = λ flow on_facet on_cell on at valid.
          (judged.valid near far c _ on_facet _ on_cell
          (λ j is. by_arc s slots crossed behind fixed settings asked shape same (slice_index flow.on_arc) on_facet on j is.1)
          (λ v is. at v is.1)).0
          (alike.valid _ _ valid.amounts);
      zero_elsewhere = λ flow valid.
          elsewhere s slots crossed behind fixed settings asked shape same flow valid.amounts.within_cap;
      at_most = λ on_facet on_cell inside valid admissible.
          let on_arc : ℕ → ℕ = λ j. on_facet (c.arc j) in
          let on_node : ℕ → ℕ = λ v. on_cell (c.node v) in
          let labels : ℕ → Bool = λ v. inside (c.node v) in
          let most =
          alike.at_most on_arc on_node labels
          ((judged.valid near far c on_arc on_facet on_node on_cell (λ j is. refl) (λ v is. refl)).1 valid)
          ((judged.admissible near far c labels inside (λ v is. refl)).1 admissible) in
          omega (
            arith,
            most,
            judged.value_is near far c on_node on_cell (λ v is. refl),
            judged.cost_is near far c labels inside (λ v is. refl),
          );
    }

pub store_network_law : StoreNetworkLaw
store_network_law s slots crossed behind fixed settings asked shape same =
    store_network s slots crossed behind fixed settings asked shape same
