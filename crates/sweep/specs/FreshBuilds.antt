-- A fresh build compared with a sweep.
--
--   IsAsBuilt s points mesh cost     every surface of the scene is this mesh, and every least cost this number
--   FreshBuildLaw                    each solution of a scan at some weights has the mesh that `IsSurfaceAt` states and
--                                    the cost that `CostsAt` states at these weights
use Rattle.std.specs.Prelude.{ℕ, ◌≡◌, List}
use Rattle.certificate.specs.Certificates.{Claim}
use Rattle.flow_net.specs.declared.votes.Settings.{Settings}
use Rattle.geo_sign.specs.Point.{Point}
use Rattle.mesh.specs.Meshes.{Surface}
use Rattle.scan_rows.specs.Shown.{Shown}
use Rattle.solution.specs.Scans.{points_of, scene_of_scan}
use Rattle.solution.specs.Solutions.{IsSolution}
use Rattle.visibility.specs.Scenes.{Scene}
use Rattle.sweep.specs.Entries.{CostsLeast, IsSurfaceOf}

-- no other surface, and no other cost
pub record IsAsBuilt (s : Scene) (points : List Point) (mesh : Surface) (cost : ℕ) : Type 0 where
  pub mesh_is : (other : Surface) → IsSurfaceOf s points other → other ≡ mesh
  pub cost_is : (n : ℕ) → CostsLeast s n → n ≡ cost

-- of a scan at any weights
abbrev pub FreshBuildLaw : Type 0
FreshBuildLaw =
    (scan : Shown) (settings : Settings) (mesh : Surface) (claim : Claim) → IsSolution scan settings mesh claim
    → IsAsBuilt (scene_of_scan scan settings) (points_of scan) mesh claim.counts.cost
