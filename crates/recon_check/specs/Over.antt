-- Labels and amounts by the numbers of cells and sides that are what a certificate states about a scene.
--
--   IsStatedOver s complex net claim stated    the linked cells and counts are those of the scene. The labels and
--                                              amounts by number are those that a well-formed certificate states about
--                                              its cells and facets
--   IsAdmissibleOver s complex claim           each row is about a cell or a facet of the complex, and no cell fixed
--                                              outside is inside by the certificate
--   IsValidOver s complex claim                each row is about a cell or a facet of the complex, the labels of the
--                                              certificate are admissible, and its flow is valid
--   TellsOf slots fixed claim reason           over each complex of each scene with these cells and flags
--                                              (`IsFlaggedFor`), the reason is the first fault of the certificate
--                                              (`IsReason`), whatever the mesh is
--   TellsOver net claim stated Before reason   for each scene and complex, if `IsStatedOver` and `Before` hold, the
--                                              reason is the first fault of the certificate (`IsReason`), whatever the
--                                              mesh is
--   ShowsOver net claim stated Before After    for each scene and complex, if `IsStatedOver` and `Before` hold, `After`
--                                              holds too
use Rattle.std.specs.Prelude.{ℕ, ◌≡◌, Bool, List, Option}
use Rattle.cell_net.specs.declared.network.CellNetwork.{CellNetwork}
use Rattle.certificate.specs.Certificates.{Claim, IsWellFormed}
use Rattle.scan_rows.specs.Shown.{Shown}
use Rattle.solution.specs.Solutions.{flow_on, sink_at}
use Rattle.tetra_store.specs.declared.link.Cell.{Cell}
use Rattle.visibility.specs.Scenes.{Scene}
use Rattle.visibility.specs.Complexes.{Complex}
use Rattle.visibility.specs.Cuts.{IsAdmissible}
use Rattle.visibility.specs.Flows.{IsValidFlow}
use Rattle.visibility.specs.Votes.{IsComplexOf}
use Rattle.cell_net.specs.Counts.{AreCountsOf}
use Rattle.recon_check.specs.Answers.{IsReason}
use Rattle.recon_check.specs.Claims.{is_inside, AreThere}
use Rattle.recon_check.specs.Stated.{IsFlaggedFor, IsStatedBy}
use Rattle.recon_check.specs.declared.answer.Reason.{Reason}
use Rattle.recon_check.specs.declared.stated.Stated.{Stated}

-- the cells, counts and settings are the scene's, the complex lists its cells and facets, and the labels and the flow are what the
-- certificate, which is well formed, states about them
pub record IsStatedOver (s : Scene) (complex : Complex) (net : CellNetwork) (claim : Claim) (stated : Stated) : Type 0 where
  pub counts : AreCountsOf s net.tetra.now.slots net.counts.crossed.now net.counts.behind.now net.counts.fixed.now
  pub settings : s.settings ≡ net.settings
  pub complex_is : IsComplexOf s complex
  pub formed : IsWellFormed claim
  pub stated_is : IsStatedBy net.tetra.now.slots net.counts.fixed.now claim stated

-- each row of the certificate is about a cell of the complex, or about a facet that has a capacity
abbrev pub IsThereOver : Scene → Complex → Claim → Type 0
IsThereOver s complex claim = AreThere complex claim

-- and no cell fixed outside is inside
pub record IsAdmissibleOver (s : Scene) (complex : Complex) (claim : Claim) : Type 0 where
  pub there : AreThere complex claim
  pub admissible : IsAdmissible s complex (is_inside claim)

-- and the flow is valid
pub record IsValidOver (s : Scene) (complex : Complex) (claim : Claim) : Type 0 where
  pub there : AreThere complex claim
  pub admissible : IsAdmissible s complex (is_inside claim)
  pub valid : IsValidFlow s complex (flow_on claim) (sink_at claim)

-- over each complex of a scene that these are the cells and flags of, whatever the mesh is
abbrev pub TellsOf : List (Option Cell) → List Bool → Claim → Reason → Type 0
TellsOf slots fixed claim reason =
    (scan : Shown) (s : Scene) (complex : Complex) (mesh : List ℕ) → IsFlaggedFor s slots fixed → IsComplexOf s complex
    → IsReason scan s complex claim mesh reason

-- over each complex of a scene that these are of, whatever the mesh is
abbrev pub TellsOver : CellNetwork → Claim → Stated → (Scene → Complex → Claim → Type 0) → Reason → Type 0
TellsOver net claim stated Before reason =
    (scan : Shown) (s : Scene) (complex : Complex) (mesh : List ℕ) → IsStatedOver s complex net claim stated
    → Before s complex claim → IsReason scan s complex claim mesh reason

abbrev pub ShowsOver : CellNetwork → Claim → Stated → (Before After : Scene → Complex → Claim → Type 0) → Type 0
ShowsOver net claim stated Before After =
    (s : Scene) (complex : Complex) → IsStatedOver s complex net claim stated → Before s complex claim → After s complex claim
