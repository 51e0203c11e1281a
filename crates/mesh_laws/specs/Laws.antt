-- Theorems on runs of `recon-mesh`.
--
--   Finishes names request text before after   a run of `finish` that is done leaves these bytes in its output
--   Runs asked status before after   a run of a command, in which no call failed
--   IsDone status               the run is done, or memory ran out
--   AsksForSteps o              the options ask for a step that may not pass its verification
--   FinishedIsConfirmed         `check` answers yes for what `finish` wrote with comments
--   FinishedIsInspected         `inspect` prints the measures of what `finish` wrote
--   FinishedIsFinished          a second `finish` rejects what `finish` wrote only for such a step
--   inspected points faces m    the answer of `inspect` with these numbers and measures
--   InspectsAlike answer other  two such answers that differ only in the numbers of pairs of faces
--   ConfirmsAlike answer other  two answers of `check` that are yes and differ only in these numbers
--   IsOfSimplified files name   the comments of this file are those of `simplify`
--   InspectAnswerIsOne          two answers of `inspect` to the same files are equal or alike
--   ConfirmAnswerIsOne            so are those of `check`, unless the mesh was simplified
use Rattle.std.specs.Prelude.{ℕ, ◌≡◌, ◌≤◌, ◌⊎◌, true, List, [], length, Some, IsSome}
use Rattle.host.specs.Counts.{Rose}
use Rattle.host.specs.State.{State, Told, Files}
use Rattle.mesh.specs.Meshes.{Surface}
use Rattle.mesh_crossings.specs.declared.counts.CrossingCounts.{CrossingCounts}
use Rattle.finish_options.specs.declared.options.FinishOptions.{FinishOptions}
use Rattle.finish_options.specs.declared.options.Made.TheVariants as making
use Rattle.finish_options.specs.declared.options.SimplifyOptions.{SimplifyOptions}
use Rattle.mesh_provenance.specs.Laws.{IsFile}
use Rattle.mesh_provenance.specs.Texts.{file_text}
use Rattle.mesh_provenance.specs.declared.provenance.Provenance.{Provenance}
use Rattle.command_run.specs.Answers.{Answer, file_limit}
use Rattle.command_run.specs.Words.{Names}
use Rattle.command_run.specs.declared.status.Status.{Status}
use Rattle.command_run.specs.declared.status.Status.TheVariants.{Done, NoMemory, Refused}
use Rattle.mesh_cmd.specs.Check.{confirmed_line, line_answer}
use Rattle.mesh_cmd.specs.Commands.{AnswerOf, Asked, Outcome, command_of, finish, inspect, check}
use Rattle.mesh_cmd.specs.Inspect.{inspected_line}
use Rattle.mesh_cmd.specs.declared.commands.inspect.Measures.{Measures}
use Rattle.mesh_cmd.specs.declared.options.FinishRequest.{FinishRequest}

-- The arguments ask for `finish`, and the run is done. The host exposes its files, and the output has these bytes after it.
pub record Finishes (names : Names) (request : FinishRequest) (text : List ℕ) (before after : State) : Type 0 where
  pub words : List (List ℕ)
  pub asks : command_of words ≡ Some (finish names request)
  pub outcome : Outcome (Some (finish names request)) Done before after
  pub old : Told
  pub tells : before.told ≡ Some old
  pub new : Told
  pub told : after.told ≡ Some new
  pub file : new.files names.output ≡ Some text

-- a run of a command, in which no call failed
pub record Runs (asked : Asked) (status : Status) (before after : State) : Type 0 where
  pub no_failure : ¬ Rose before.faults after.faults
  pub outcome : Outcome (Some asked) status before after

-- the run is done, or memory ran out
abbrev pub IsDone : Status → Type 0
IsDone status = (status ≡ Done) ⊎ (status ≡ NoMemory)

-- pieces are to be kept, or vertices to be split
abbrev pub AsksForSteps : FinishOptions → Type 0
AsksForSteps o = IsSome o.pieces ⊎ (o.manifold ≡ true)

-- `finish` wrote a mesh within the limit that states where it comes from: `check` with the same names answers yes
abbrev pub FinishedIsConfirmed : Type 0
FinishedIsConfirmed =
    (names : Names) (request : FinishRequest) (text : List ℕ) (status : Status) (before between after : State)
    → Finishes names request text before between → request.comments ≡ true → length text ≤ file_limit
    → Runs (check names) status between after → IsDone status

-- `finish` wrote a mesh within the limit: `inspect` of it is done
abbrev pub FinishedIsInspected : Type 0
FinishedIsInspected =
    (names : Names) (request : FinishRequest) (text : List ℕ) (status : Status) (before between after : State)
    → Finishes names request text before between → length text ≤ file_limit
    → Runs (inspect names.output) status between after → IsDone status

-- `finish` wrote a mesh within the limit: another `finish` of it is done, or rejects it for a step that it asks for
abbrev pub FinishedIsFinished : Type 0
FinishedIsFinished =
    (names : Names) (request again : FinishRequest) (output text : List ℕ) (status : Status) (before between after : State)
    → Finishes names request text before between → length text ≤ file_limit
    → Runs (finish (record { input = names.output; output = output }) again) status between after
    → IsDone status ⊎ ((status ≡ Refused) × AsksForSteps again.options)

-- the answer of `inspect` with these numbers of points and faces, and these measures
abbrev pub inspected : (points faces : ℕ) → Measures → Answer
inspected points faces m = record { status = Done; reads = 1; writes = []; line = inspected_line points faces m }

-- two such answers, which differ only in what they say of pairs of faces
pub record InspectsAlike (answer other : Answer) : Type 0 where
  pub points : ℕ
  pub faces : ℕ
  pub measures : Measures
  pub pairs : CrossingCounts
  pub is : answer ≡ inspected points faces measures
  pub other_is : other ≡ inspected points faces (record measures { crossings = pairs })

-- two answers of `check` that are yes, which differ only in this
pub record ConfirmsAlike (answer other : Answer) : Type 0 where
  pub points : ℕ
  pub faces : ℕ
  pub counts : CrossingCounts
  pub other_counts : CrossingCounts
  pub is : answer ≡ line_answer Done (confirmed_line points faces counts)
  pub other_is : other ≡ line_answer Done (confirmed_line points faces other_counts)

-- the file states in its comments that it was simplified
pub record IsOfSimplified (files : Files) (name : List ℕ) : Type 0 where
  pub bytes : List ℕ
  pub has : files name ≡ Some bytes
  pub provenance : Provenance
  pub mesh : Surface
  pub file : IsFile (Some provenance) mesh.points mesh.faces
  pub text_is : bytes ≡ file_text (Some provenance) mesh.points mesh.faces
  pub options : SimplifyOptions
  pub made : provenance.made ≡ making.Simplify options

-- the files are given: two answers of `inspect` are equal, but for the pairs of faces
abbrev pub InspectAnswerIsOne : Type 0
InspectAnswerIsOne =
    (name : List ℕ) (files : Files) (answer other : Answer) → AnswerOf (Some (inspect name)) files answer
    → AnswerOf (Some (inspect name)) files other → (answer ≡ other) ⊎ InspectsAlike answer other

-- so are two answers of `check`, unless the second mesh states that it was simplified
abbrev pub ConfirmAnswerIsOne : Type 0
ConfirmAnswerIsOne =
    (names : Names) (files : Files) (answer other : Answer) → AnswerOf (Some (check names)) files answer
    → AnswerOf (Some (check names)) files other
    → ((answer ≡ other) ⊎ ConfirmsAlike answer other) ⊎ IsOfSimplified files names.output
