-- Properties of all solutions.
--
--   IsSame          two solutions have the same mesh, and certificates that differ only in their flows
--   LeastCostLaw    the least cost of a scan's surface is below 2^47, however many points it has
--   SolutionLaw     two solutions of one scan at the same settings are the same except for the flow
use Rattle.std.specs.Prelude.{ℕ, ◌≡◌, ◌<◌, ◌^◌, Bool, List}
use Rattle.certificate.specs.Certificates.{Claim}
use Rattle.flow_net.specs.declared.votes.Settings.{Settings}
use Rattle.mesh.specs.Meshes.{Surface}
use Rattle.scan_rows.specs.Shown.{Shown, IsShown}
use Rattle.solution.specs.Scans.{scene_of_scan}
use Rattle.solution.specs.Solutions.{IsSolution}
use Rattle.visibility.specs.Complexes.{Complex}
use Rattle.visibility.specs.Cuts.{cost, IsLeastCost}
use Rattle.visibility.specs.Votes.{IsComplexOf}

-- one mesh, the same counts, weights and cost, and the same inside cells; the fingerprint, which identifies the file that was
-- read, is not part of a solution
pub record IsSame (mesh : Surface) (claim : Claim) (other_mesh : Surface) (other : Claim) : Type 0 where
  pub mesh_is : mesh ≡ other_mesh
  pub counts_are : claim.counts ≡ other.counts
  pub inside_is : claim.inside ≡ other.inside

-- two solutions of one scan at the same settings are the same except for the flow
abbrev pub SolutionLaw : Type 0
SolutionLaw =
    (scan : Shown) (settings : Settings) (mesh other_mesh : Surface) (claim other : Claim) → IsSolution scan settings mesh claim
    → IsSolution scan settings other_mesh other → IsSame mesh claim other_mesh other

-- since each sight has exactly one cell behind it
abbrev pub LeastCostLaw : Type 0
LeastCostLaw =
    (scan : Shown) (settings : Settings) (complex : Complex) (inside : List ℕ → Bool) → IsShown scan
    → IsComplexOf (scene_of_scan scan settings) complex
    → IsLeastCost (scene_of_scan scan settings) complex inside → cost (scene_of_scan scan settings) complex inside < 2 ^ 47
