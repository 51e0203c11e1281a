-- The labels that a certificate shows best, and their surface.
--
--   AreShownLabels scan settings slots claim labels
--       over the complex of the scan, a certificate shows that its labels are best and what they cost. `labels` has the
--       certificate's labels, each at the number of its cell
--   IsBestSurface scan settings claim surface
--       over the complex of the scan, a certificate with the scan's numbers shows that its labels are best and what
--       they cost. The surface is that of these labels
use Rattle.std.specs.Prelude.{◌≡◌, List, Option}
use Rattle.certificate.specs.Certificates.{Claim}
use Rattle.flow_net.specs.Nets.{flag_at}
use Rattle.flow_net.specs.declared.Labels.{Labels}
use Rattle.flow_net.specs.declared.votes.Settings.{Settings}
use Rattle.mesh.specs.Meshes.{Surface}
use Rattle.solution.specs.Scans.{scene_of_scan}
use Rattle.solution.specs.Solutions.{HasCounts}
use Rattle.scan_rows.specs.Shown.{Shown}
use Rattle.tetra_store.specs.declared.link.Cell.{Cell}
use Rattle.visibility.specs.Complexes.{Complex}
use Rattle.visibility.specs.Cuts.{cost}
use Rattle.visibility.specs.Votes.{IsComplexOf}
use Rattle.cell_net.specs.ByNumber.{SaysOfCells}
use Rattle.recon_check.specs.Answers.{best_surface}
use Rattle.recon_check.specs.Claims.{is_inside}
use Rattle.recon_check.specs.Faults.{IsBest}

-- a certificate shows its labels best and states their cost, and these labels of cells by number are the same
pub record AreShownLabels (scan : Shown) (settings : Settings) (slots : List (Option Cell)) (claim : Claim) (labels : Labels)
    : Type 0 where
  pub complex : Complex
  pub complex_is : IsComplexOf (scene_of_scan scan settings) complex
  pub best : IsBest (scene_of_scan scan settings) complex claim
  pub cost_is : claim.counts.cost ≡ cost (scene_of_scan scan settings) complex (is_inside claim)
  pub says : SaysOfCells slots (flag_at labels.inside) (is_inside claim)

-- a certificate with the scan's numbers shows its labels best and states their cost, and this is their surface
pub record IsBestSurface (scan : Shown) (settings : Settings) (claim : Claim) (surface : Surface) : Type 0 where
  pub complex : Complex
  pub complex_is : IsComplexOf (scene_of_scan scan settings) complex
  pub counts : HasCounts claim scan settings
  pub best : IsBest (scene_of_scan scan settings) complex claim
  pub cost_is : claim.counts.cost ≡ cost (scene_of_scan scan settings) complex (is_inside claim)
  pub surface_is : surface ≡ best_surface scan complex (is_inside claim)
