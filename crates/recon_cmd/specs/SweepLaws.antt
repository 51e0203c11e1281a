-- Theorems about a run of `sweep`, for readers of the contract of `run_forms`.
--
--   SweepsOn asked bytes status before after old new texts
--                                 a run of `sweep`, in which the file of the scan has these bytes
--   AcceptedIsSwept               a run of `sweep` is done if its scan is accepted
--   RefusedIsNotSwept             a run of `sweep` rejects a rejected scan
--   SweepAnswerIsOne              for given files `sweep` has at most one answer, also with other mesh writers, if they
--                                 are as many and their texts are the same functions of what they have received
--   entry_options asked k         the options of a sweep with the area weight of entry k
--   Builds asked k names files built   an answer of `build` to the same scan at the weights of entry k of a sweep
--   HasBuiltMesh names built r    a writer has received exactly the mesh that this answer of `build` writes
--   HasBuiltCost names built n    n is the cost that the certificate in this answer of `build` states
--   AreBuilt asked forms files answer
--                                 each writer of a sweep has received the mesh that `build` writes at the weights of
--                                 its entry, and the line states the costs of the first and last of these builds
--   EntriesAreBuilt               the meshes and the two costs in each answer of `sweep` that is done are those that
--                                 `build` gives at the same weights (`AreBuilt`)
use Rattle.std.specs.Prelude.{◌≡◌, ℕ, List, Some, ◌⊎◌, ◌≤◌, length, Ok, ◌<◌, Err, ◌-◌, slice_index_or}
use Rattle.certificate.specs.Certificates.{Claim}
use Rattle.host.specs.Counts.{Rose}
use Rattle.host.specs.State.{State, Told, Files}
use Rattle.mesh_form.specs.Received.{Received, HasAll}
use Rattle.mesh.specs.Meshes.{Surface}
use Rattle.scan_rows.specs.Shown.{Shown}
use Rattle.scan.specs.declared.refusal.ScanRefusal.{ScanRefusal}
use Rattle.sweep.specs.Entries.{smoothing_of}
use Rattle.command_run.specs.Answers.{file_limit, Answer}
use Rattle.command_run.specs.declared.status.Status.{Status}
use Rattle.command_run.specs.declared.status.Status.TheVariants.{Done, NoMemory, Refused}
use Rattle.recon_cmd.specs.Answers.{read_as}
use Rattle.recon_cmd.specs.Build.{Shows}
use Rattle.recon_cmd.specs.Commands.{AnswerOf, build}
use Rattle.recon_cmd.specs.Laws.{texts_by}
use Rattle.recon_cmd.specs.Options.{Options}
use Rattle.recon_cmd.specs.Sweep.{SweepAsked, SweepOutcome, SweepAnswer, sweep_line}
use Rattle.recon_cmd.specs.Words.{SurfaceNames}

-- a run of `sweep` over a host that exposes its files, in which the file of the scan has these bytes and no call failed
pub record SweepsOn (asked : SweepAsked) (bytes : List ℕ) (status : Status) (before after : State) (old new : List Received)
    (texts : List (List ℕ)) : Type 0 where
  pub told : Told
  pub tells : before.told ≡ Some told
  pub file : told.files asked.input ≡ Some bytes
  pub no_failure : ¬ Rose before.faults after.faults
  pub outcome : SweepOutcome file_limit asked status before after old new texts

-- the scan is valid: the texts are written, or memory ran out
abbrev pub AcceptedIsSwept : Type 0
AcceptedIsSwept =
    (asked : SweepAsked) (bytes : List ℕ) (scan : Shown) (status : Status) (before after : State) (old new : List Received)
    (texts : List (List ℕ)) → SweepsOn asked bytes status before after old new texts → length bytes ≤ file_limit
    → read_as asked.options bytes ≡ Ok scan → (status ≡ Done) ⊎ (status ≡ NoMemory)

-- the file is too long, or not a scan for any reason: it is rejected, or memory ran out
abbrev pub RefusedIsNotSwept : Type 0
RefusedIsNotSwept =
    (asked : SweepAsked) (bytes : List ℕ) (status : Status) (before after : State) (old new : List Received)
    (texts : List (List ℕ)) → SweepsOn asked bytes status before after old new texts
    → (file_limit < length bytes) ⊎ ((why : ScanRefusal) × (read_as asked.options bytes ≡ Err why))
    → (status ≡ Refused) ⊎ (status ≡ NoMemory)

-- Two runs may pass other writers. If these have the same number, and their texts are the same functions of what they have
-- received, the answers are equal.
abbrev pub SweepAnswerIsOne : Type 0
SweepAnswerIsOne =
    (asked : SweepAsked) (makes : List (Received → List ℕ)) (forms others : List Received) (files : Files)
    (answer other : Answer) → length forms ≡ length others → SweepAnswer file_limit asked forms (texts_by makes forms) files answer
    → SweepAnswer file_limit asked others (texts_by makes others) files other → answer ≡ other

-- the options of entry k
abbrev pub entry_options : SweepAsked → (k : ℕ) → Options
entry_options asked k = record asked.options { smooth = smoothing_of asked.options.smooth asked.step k }

-- an answer of `build` to the same scan, at the weights of entry k
pub record Builds (asked : SweepAsked) (k : ℕ) (names : SurfaceNames) (files : Files) (built : Answer) : Type 0 where
  pub input : names.input ≡ asked.input
  pub answers : AnswerOf (Some (build names (entry_options asked k))) files built

-- the writer has received exactly the mesh of the build
pub record HasBuiltMesh (names : SurfaceNames) (built : Answer) (r : Received) : Type 0 where
  pub mesh : Surface
  pub claim : Claim
  pub shown : Shows names.mesh names.cert mesh claim built
  pub all : HasAll r mesh.points mesh.faces

-- the number is the cost that the certificate states
pub record HasBuiltCost (names : SurfaceNames) (built : Answer) (n : ℕ) : Type 0 where
  pub mesh : Surface
  pub claim : Claim
  pub shown : Shows names.mesh names.cert mesh claim built
  pub cost_is : n ≡ claim.counts.cost

-- each writer has received the mesh that `build` writes at the weights of its entry, and the line states the costs of `build`
-- at those of the first and of the last
pub record AreBuilt (asked : SweepAsked) (forms : List Received) (files : Files) (answer : Answer) : Type 0 where
  pub each : (k : ℕ) (d : Received) (names : SurfaceNames) (built : Answer) → k < length forms
      → Builds asked k names files built → HasBuiltMesh names built (slice_index_or forms k d)
  pub first : ℕ
  pub last : ℕ
  pub line_is : answer.line ≡ sweep_line (length asked.outputs) first last
  pub first_is : (names : SurfaceNames) (built : Answer) → Builds asked 0 names files built → HasBuiltCost names built first
  pub last_is : (names : SurfaceNames) (built : Answer) → Builds asked (length asked.outputs - 1) names files built
      → HasBuiltCost names built last

abbrev pub EntriesAreBuilt : Type 0
EntriesAreBuilt =
    (asked : SweepAsked) (forms : List Received) (texts : List (List ℕ)) (files : Files) (answer : Answer)
    → SweepAnswer file_limit asked forms texts files answer → answer.status ≡ Done → AreBuilt asked forms files answer
