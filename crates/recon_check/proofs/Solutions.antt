-- A solution is a certificate without a fault, and the text of its mesh.
--
-- The inside cells that a certificate lists are those of its labels, so the test of being listed agrees with the labels on all cells, and
-- costs the same, is the least inside and cuts the same facets (best_from). The other way round, rows that are all there, rise and state
-- no 0 are exactly the rows of what they state (rows_listed), and inside rows those of the cells that are among them (among_kept): this
-- is what a solution's certificate is to have (solution_from).
use Rattle.std.proofs.Common.{ℕ, ◌≡◌, ◌≤◌, ◌++◌, refl, ap, sym, subst, ◌∙◌, Bool, List, map, All}
use Rattle.std.proofs.Common.{Contains}
use Rattle.std.proofs.lemmas.List.Elements.{All-weaker}
use Rattle.certificate.specs.Certificates.{Claim, IsWellFormed}
use Rattle.certificate.specs.Rows.{IsFlowRow, IsSinkRow}
use Rattle.certificate.specs.declared.certificate.FlowRow.{FlowRow}
use Rattle.certificate.specs.declared.certificate.SinkRow.{SinkRow}
use Rattle.flow_net.proofs.Correspondences.{itself, cost_is, least_inside}
use Rattle.flow_net.specs.declared.votes.Settings.{Settings}
use Rattle.geo_sign.specs.Vertices.{corners}
use Rattle.mesh.specs.Meshes.{Surface, mesh_of}
use Rattle.solution.specs.Scans.{points_of, scene_of_scan}
use Rattle.solution.specs.Solutions.{flow_on, sink_at, flow_row, sink_row, HasCounts, IsSolution}
use Rattle.geo_sign.proofs.Booleans.{same_bools}
use Rattle.solution.proofs.Uniqueness.{cut_same}
use Rattle.scan_rows.specs.Shown.{Shown}
use Rattle.visibility.specs.Scenes.{Scene}
use Rattle.visibility.specs.Complexes.{Complex}
use Rattle.visibility.specs.Votes.{IsComplexOf}
use Rattle.visibility.specs.Cuts.{network_over, cost, IsLeastInside}
use Rattle.visibility.proofs.ListingAgreements.{by_itself}
use Rattle.recon_check.specs.Answers.{best_surface}
use Rattle.recon_check.specs.Claims.{is_inside}
use Rattle.recon_check.specs.Faults.{IsBest}
use Rattle.recon_check.specs.Surfaces.{IsBestSurface}
use Rattle.recon_check.proofs.Lists.{among_from, among_means, among_kept, kept_has, kept_passes, kept_there}
use Rattle.recon_check.proofs.Lists.{rows_listed, listed_there}

-- two tests agree on the cells
abbrev pub Agree : Complex → (List ℕ → Bool) → (List ℕ → Bool) → Type 0
Agree complex inside other = (row : List ℕ) → Contains complex.cells row → inside row ≡ other row

-- tests that agree cost the same
pub cost_same : (s : Scene) (complex : Complex) (inside other : List ℕ → Bool) → IsComplexOf s complex
    → Agree complex inside other → cost s complex inside ≡ cost s complex other
cost_same s complex inside other is same =
    cost_is (network_over s complex) (network_over s complex) (itself (by_itself s complex is)) inside other same

-- and are the least inside together
pub least_same : (s : Scene) (complex : Complex) (inside other : List ℕ → Bool) → IsComplexOf s complex
    → Agree complex inside other → IsLeastInside s complex inside → IsLeastInside s complex other
least_same s complex inside other is same =
    (least_inside (network_over s complex) (network_over s complex) (itself (by_itself s complex is)) inside other same).0

-- a solution's mesh is the surface of its certificate's labels
pub best_from : (scan : Shown) (settings : Settings) (surface : Surface) (claim : Claim)
    → IsSolution scan settings surface claim → IsBestSurface scan settings claim surface
best_from scan settings surface claim h =
    let s : Scene = scene_of_scan scan settings in
    let costs : cost s h.complex h.inside ≡ cost s h.complex (is_inside claim) =
    cost_same s h.complex h.inside (is_inside claim) h.complex_is agree in
    record {
      complex = h.complex;
      complex_is = h.complex_is;
      counts = h.counts;
      best = record {
        certified = record {
          there = record {
            inside =
                subst (λ (list : List (List ℕ)). All (Contains h.complex.cells) list) (sym h.certificate.inside_is)
                (kept_there h.inside h.complex.cells);
            flow =
                subst (λ (list : List FlowRow). All (Contains h.complex.facets) (map (λ (row : FlowRow). row.facet) list))
                (sym h.certificate.flow_is)
                (listed_there flow_row (λ (row : FlowRow). row.facet) h.complex.facets (flow_on claim) (λ key n. refl));
            sink =
                subst (λ (list : List SinkRow). All (Contains h.complex.cells) (map (λ (row : SinkRow). row.cell) list))
                (sym h.certificate.sink_is)
                (listed_there sink_row (λ (row : SinkRow). row.cell) h.complex.cells (sink_at claim) (λ key n. refl));
          };
          admissible = (least_same s h.complex h.inside (is_inside claim) h.complex_is agree h.least).least_cost.admissible;
          valid = h.certificate.flow;
          equal = h.certificate.value_is ∙ h.certificate.cost_is ∙ costs;
        };
        least = least_same s h.complex h.inside (is_inside claim) h.complex_is agree h.least;
      };
      cost_is = h.certificate.cost_is ∙ costs;
      surface_is =
          h.mesh_is
          ∙ ap (mesh_of (corners ++ points_of scan)) (cut_same s h.complex h.inside (is_inside claim) h.complex_is agree);
    }
  where
    agree : Agree h.complex h.inside (is_inside claim)
    agree row there =
        same_bools (h.inside row) (is_inside claim row)
        (λ passes. among_from claim.inside row
        (subst (λ (list : List (List ℕ)). Contains list row) (sym h.certificate.inside_is)
        (kept_has h.inside h.complex.cells row there passes)))
        (λ passes. kept_passes h.inside h.complex.cells row
        (subst (λ (list : List (List ℕ)). Contains list row) h.certificate.inside_is (among_means claim.inside row passes)))

-- a certificate without a fault is that of a solution
pub solution_from : (scan : Shown) (settings : Settings) (complex : Complex) (claim : Claim) → IsWellFormed claim
    → IsComplexOf (scene_of_scan scan settings) complex → HasCounts claim scan settings
    → IsBest (scene_of_scan scan settings) complex claim
    → claim.counts.cost ≡ cost (scene_of_scan scan settings) complex (is_inside claim)
    → IsSolution scan settings (best_surface scan complex (is_inside claim)) claim
solution_from scan settings complex claim formed is counts best cost_is = record {
  complex = complex;
  inside = is_inside claim;
  complex_is = is;
  least = best.least;
  mesh_is = refl;
  counts = counts;
  certificate = record {
    cost_is = cost_is;
    inside_is = among_kept claim.inside complex.cells formed.inside.rising is.cells_are.rising best.certified.there.inside;
    flow = best.certified.valid;
    value_is = best.certified.equal ∙ sym cost_is;
    flow_is =
        rows_listed flow_row (λ (row : FlowRow). row.facet) (λ (row : FlowRow). row.amount) (λ row. refl) claim.flow
        complex.facets
        formed.flow.rising is.facets_are.rising best.certified.there.flow
        (All-weaker IsFlowRow (λ (row : FlowRow). 1 ≤ row.amount) (λ row h. h.some) claim.flow formed.flow.each);
    sink_is =
        rows_listed sink_row (λ (row : SinkRow). row.cell) (λ (row : SinkRow). row.amount) (λ row. refl) claim.sink
        complex.cells
        formed.sink.rising is.cells_are.rising best.certified.there.sink
        (All-weaker IsSinkRow (λ (row : SinkRow). 1 ≤ row.amount) (λ row h. h.some) claim.sink formed.sink.each);
  };
}
