-- `build IN MESH CERT`: the best surface of a scan, and the certificate of its optimality.
--
--   build_names names                the file names that the program holds for `build`, in the form that definitions
--                                    use
--   build_line counts inside faces   the line that `build` prints when it is done
--   Shows mesh_name cert_name ..     the answer that writes a surface and its certificate
--   WritesSurface names options ..   the answer that writes the best surface of a scan and its certificate
--   build_task names options         the definition of `build` with these arguments
use Rattle.std.specs.Prelude.{ℕ, List, [], ◌∷◌, ◌++◌, codes, ◌≡◌, length, Some, ⊤}
use Rattle.certificate.specs.Certificates.{Counts, Claim, IsWellFormed}
use Rattle.cert_text.specs.Texts.{cert_text}
use Rattle.flow_net.specs.declared.votes.Settings.{Settings}
use Rattle.mesh.specs.Meshes.{Surface}
use Rattle.mesh_ply.specs.Texts.{mesh_text, IsPrinted}
use Rattle.scan_rows.specs.Shown.{Shown}
use Rattle.solution.specs.Solutions.{IsSolution}
use Rattle.surface.specs.Closed.{IsClosed}
use Rattle.command_run.specs.Answers.{Answer, Task}
use Rattle.command_run.specs.Lines.{labelled}
use Rattle.command_run.specs.declared.status.Status.TheVariants.{Done}
use Rattle.recon_cmd.specs.Answers.{ToScan}
use Rattle.recon_cmd.specs.Options.{Options}
use Rattle.recon_cmd.specs.Stamps.{stamp_for}
use Rattle.recon_cmd.specs.Words.{SurfaceNames}
use Rattle.recon_cmd.specs.declared.commands.build.BuildNames.{BuildNames}

-- the names of `build` that the program holds
abbrev pub build_names : BuildNames → SurfaceNames
build_names names = record { input = names.input.now; mesh = names.mesh.now; cert = names.cert.now }

-- `points P scanners S sights R inside I faces F cost C`: the counts and the cost, and the numbers of inside cells and faces
unfoldable pub build_line : Counts → (inside faces : ℕ) → List ℕ
build_line counts inside faces =
    labelled (codes "points ") counts.points ++ labelled (codes " scanners ") counts.scanners
    ++ labelled (codes " sights ") counts.sights
    ++ labelled (codes " inside ") inside ++ labelled (codes " faces ") faces ++ labelled (codes " cost ") counts.cost
    ++ (10 ∷ [])

-- the answer that writes a surface and its certificate, after one file was read
abbrev pub Shows : (mesh_name cert_name : List ℕ) → Surface → Claim → Answer → Type 0
Shows mesh_name cert_name mesh claim answer =
    answer ≡ record {
      status = Done;
      reads = 1;
      writes = (mesh_name, mesh_text mesh.points mesh.faces) ∷ (cert_name, cert_text claim) ∷ [];
      line = build_line claim.counts (length claim.inside) (length mesh.faces);
    }

-- the best surface of the scan at the weights of these options is written, which is closed and whose text can be read back,
-- with the certificate of its optimality and the fingerprint of the scan's file: the mesh first
pub record WritesSurface (names : SurfaceNames) (options : Options) (bytes : List ℕ) (scan : Shown)
    (answer : Answer) : Type 0 where
  pub settings : Settings
  pub vote : settings.vote ≡ options.vote
  pub smooth : settings.smooth ≡ options.smooth
  pub mesh : Surface
  pub claim : Claim
  pub solution : IsSolution scan settings mesh claim
  pub printed : IsPrinted mesh.points mesh.faces
  pub closed : IsClosed mesh.faces
  pub well_formed : IsWellFormed claim
  pub stamped : claim.stamp ≡ Some (stamp_for options bytes)
  pub is : Shows names.mesh names.cert mesh claim answer

-- it reads the scan, and writes its best surface or rejects it
abbrev pub build_task : SurfaceNames → Options → Task
build_task names options =
    record { Denies = ⊥; Refuses = ⊤; most = 1; Answers = λ limit. ToScan limit names.input options (WritesSurface names options) }
