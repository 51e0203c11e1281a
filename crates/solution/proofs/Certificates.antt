-- The certificate of labels and a flow over cells and facets.
use Rattle.std.proofs.Common.{ℕ, ◌≡◌, refl, ap, sym, ◌∙◌, Bool, List, [], get_or, map, filter, AllPairs, Contains}
use Rattle.std.proofs.lemmas.List.{get_or-map}
use Rattle.certificate.specs.Certificates.{Claim}
use Rattle.certificate.specs.declared.certificate.FlowRow.{FlowRow}
use Rattle.certificate.specs.declared.certificate.SinkRow.{SinkRow}
use Rattle.flow_net.proofs.Correspondences as judged
use Rattle.flow_net.proofs.Correspondences.{itself}
use Rattle.geo_sign.specs.Rising.{IsBefore}
use Rattle.visibility.specs.Scenes.{Scene}
use Rattle.visibility.specs.Cuts.{cost, network_over}
use Rattle.visibility.specs.Flows.{value, IsValidFlow}
use Rattle.visibility.specs.Complexes.{Complex}
use Rattle.visibility.specs.Listings.{IsListingOf, AgreeInAnyOrder}
use Rattle.visibility.proofs.Indices.{at_index}
use Rattle.visibility.proofs.ListingAgreements.{by_itself, with_rising}
use Rattle.solution.specs.Solutions.{IsCertificate, flow_on, sink_at, flow_row, sink_row, flow_rows, sink_rows, stated}
use Rattle.solution.proofs.RowLists.{Makes, map_stated, listed_same}

facet_rows : Makes flow_row (λ (row : FlowRow). row.facet) (λ (row : FlowRow). row.amount)
facet_rows = record { about_is = λ key n. refl; amount_is = λ key n. refl }

cell_rows : Makes sink_row (λ (row : SinkRow). row.cell) (λ (row : SinkRow). row.amount)
cell_rows = record { about_is = λ key n. refl; amount_is = λ key n. refl }

-- the flow that the rows state is the flow by number
pub flow_on_is : (facets : List (List ℕ)) (on : List ℕ → ℕ) (claim : Claim) → AllPairs IsBefore facets
    → claim.flow ≡ flow_rows facets on → map (flow_on claim) facets ≡ map on facets
flow_on_is facets on claim rising is =
    ap (λ (rows : List FlowRow). map (stated (λ (row : FlowRow). row.facet) (λ (row : FlowRow). row.amount) rows) facets) is
    ∙ map_stated flow_row (λ (row : FlowRow). row.facet) (λ (row : FlowRow). row.amount) facet_rows facets on rising

pub sink_at_is : (cells : List (List ℕ)) (at : List ℕ → ℕ) (claim : Claim) → AllPairs IsBefore cells
    → claim.sink ≡ sink_rows cells at → map (sink_at claim) cells ≡ map at cells
sink_at_is cells at claim rising is =
    ap (λ (rows : List SinkRow). map (stated (λ (row : SinkRow). row.cell) (λ (row : SinkRow). row.amount) rows) cells) is
    ∙ map_stated sink_row (λ (row : SinkRow). row.cell) (λ (row : SinkRow). row.amount) cell_rows cells at rising

-- amounts that agree on rows, at one of them
same_at : (f g : List ℕ → ℕ) (rows : List (List ℕ)) → map f rows ≡ map g rows → (row : List ℕ) → Contains rows row
    → f row ≡ g row
same_at f g rows e row h =
    let here : get_or rows h.0 [] ≡ row = at_index rows row h in
    ap f (sym here) ∙ sym (get_or-map f rows h.0 [] 0 h.1) ∙ ap (λ (amounts : List ℕ). get_or amounts h.0 0) e
    ∙ get_or-map g rows h.0 [] 0 h.1 ∙ ap g here

-- The certificate of labels and of a flow over cells and facets that are listed in any order, with these rows of the rising lists. The
-- amounts that the rows state are those of the flow, and a flow is judged by its amounts on the cells and facets alone.
pub certificate_is : (s : Scene) (listing : Complex) (h : IsListingOf s listing) (inside : List ℕ → Bool) (on at : List ℕ → ℕ)
    (claim : Claim) → IsValidFlow s listing on at → cost s listing inside ≡ value s listing at
    → claim.counts.cost ≡ cost s listing inside → claim.inside ≡ filter inside h.complex.cells
    → claim.flow ≡ flow_rows h.complex.facets on → claim.sink ≡ sink_rows h.complex.cells at
    → IsCertificate s h.complex inside claim
certificate_is s listing h inside on at claim flow equal cost_is inside_is flow_is sink_is =
    let rising : Complex = h.complex in
    let order : AgreeInAnyOrder s listing rising = with_rising s listing h in
    let on_same : map (flow_on claim) rising.facets ≡ map on rising.facets =
    flow_on_is rising.facets on claim h.complex_is.facets_are.rising flow_is in
    let at_same : map (sink_at claim) rising.cells ≡ map at rising.cells =
    sink_at_is rising.cells at claim h.complex_is.cells_are.rising sink_is in
    let net = network_over s rising in
    let each = itself (by_itself s rising h.complex_is) in
    record {
      cost_is = cost_is ∙ order.cost_is inside;
      inside_is = inside_is;
      flow =
          (judged.valid net net each on (flow_on claim) at (sink_at claim)
          (same_at on (flow_on claim) rising.facets (sym on_same)) (same_at at (sink_at claim) rising.cells (sym at_same))).0
          ((order.valid on at).0 flow);
      value_is =
          judged.value_is net net each (sink_at claim) at (same_at (sink_at claim) at rising.cells at_same)
          ∙ sym (order.value_is at) ∙ sym equal ∙ sym cost_is;
      flow_is = flow_is ∙ listed_same flow_row rising.facets on (flow_on claim) (sym on_same);
      sink_is = sink_is ∙ listed_same sink_row rising.cells at (sink_at claim) (sym at_same);
    }
