-- `finish MESH OUT`: a mesh after what the options ask for.
--
--   finish_names words                   the file names that the program holds for `finish`, in the form that
--                                        definitions use
--   scale_text smoothing fine            the part of the line on the scale of a smoothed mesh
--   finished_line smoothing points faces fine   the line of `finish`
--   stated_by request digest fine        where a mesh comes from, if its file states that
--   finish_done output request ..        the answer that writes this mesh
--   not_closed_line from to there back   the line of a mesh that is not closed
--   unverified_line step                 the line of a step whose result did not pass its verification
--   WritesFinished output request digest mesh answer
--                                        the answer writes a mesh that the steps which the options ask for make of this
--                                        mesh (`AreFinished`)
--   IsNotClosed mesh answer              the mesh is not closed, and the answer states that
--   IsUnverified options mesh answer     the mesh is closed, a step that the options ask for did not pass its
--                                        verification, and the answer states that
--   IsNotFinished options mesh answer    no mesh is written, and the answer states why: the mesh is not closed
--                                        (`IsNotClosed`), or a step did not pass its verification (`IsUnverified`)
--   FinishAnswer output request digest mesh answer   a mesh is written, or the answer states why not
--   finish_task names request            the definition (`Task`) of the command `finish` with these names and options
use Rattle.std.specs.Prelude.{ℕ, List, [], ◌∷◌, ◌++◌, codes, ◌≡◌, ◌⊎◌, length, Option, None, Some, if◌then◌else◌}
use Rattle.sha2.specs.Sha256.{sha256}
use Rattle.mesh.specs.Meshes.{Surface}
use Rattle.mesh_ply.specs.Texts.{IsPrinted}
use Rattle.mesh_provenance.specs.Texts.{file_text}
use Rattle.mesh_provenance.specs.declared.provenance.Provenance.{Provenance}
use Rattle.mesh_edges.specs.Edges.{IsBalanced, IsFirstUnbalanced}
use Rattle.mesh_finish.specs.Steps.{AreFinished, IsUnverifiedStep}
use Rattle.finish_options.specs.declared.options.FinishOptions.{FinishOptions}
use Rattle.finish_options.specs.declared.options.Made.TheVariants as making
use Rattle.finish_options.specs.declared.options.SmoothOptions.{SmoothOptions}
use Rattle.mesh_finish.specs.declared.options.Step.{Step}
use Rattle.mesh_finish.specs.declared.options.Step.TheVariants.{Pieces, Umbrellas}
use Rattle.command_run.specs.Answers.{Answer, Task, invalid}
use Rattle.command_run.specs.Lines.{labelled, text_line}
use Rattle.command_run.specs.Words.{Names}
use Rattle.command_run.specs.declared.status.Status.TheVariants.{Done}
use Rattle.mesh_cmd.specs.Input.{file_task}
use Rattle.mesh_cmd.specs.declared.commands.finish.FinishWords.{FinishWords}
use Rattle.mesh_cmd.specs.declared.options.FinishRequest.{FinishRequest}

-- the names that the program holds
abbrev pub finish_names : FinishWords → Names
finish_names words = record { input = words.mesh.now; output = words.output.now }

-- how many units of the new mesh one unit of the mesh has, if it was smoothed
unfoldable pub scale_text : Option SmoothOptions → (fine : ℕ) → List ℕ
scale_text None fine = []
scale_text (Some smoothing) fine = labelled (codes " fine ") fine

-- `finished points N faces M`, and ` fine F` after smoothing
unfoldable pub finished_line : Option SmoothOptions → (points faces fine : ℕ) → List ℕ
finished_line smoothing points faces fine =
    labelled (codes "finished points ") points
    ++ (labelled (codes " faces ") faces ++ (scale_text smoothing fine ++ (10 ∷ [])))

-- the options, the scale and the digest of the file that was read, unless the header is to have no comments
abbrev pub stated_by : FinishRequest → (digest : List ℕ) → (fine : ℕ) → Option Provenance
stated_by request digest fine =
    if request.comments then Some (record { made = making.Finish request.options; fine = fine; digest = digest }) else None

-- the answer that writes the text of this mesh, with where it comes from
abbrev pub finish_done : (output : List ℕ) → FinishRequest → (digest : List ℕ) → Surface → (fine : ℕ) → Answer
finish_done output request digest mesh fine =
    record {
      status = Done;
      reads = 1;
      writes = (output, file_text (stated_by request digest fine) mesh.points mesh.faces) ∷ [];
      line = finished_line request.options.smoothing (length mesh.points) (length mesh.faces) fine;
    }

-- the line of a mesh that is not closed: its smallest edge that occurs another number of times than its reverse, with both counts
unfoldable pub not_closed_line : (from to there back : ℕ) → List ℕ
not_closed_line from to there back =
    labelled (codes "refused 28 unbalanced from ") from
    ++ (labelled (codes " to ") to ++ (labelled (codes " there ") there ++ (labelled (codes " back ") back ++ (10 ∷ []))))

-- the line of a step whose result did not pass its verification
abbrev pub unverified_line : Step → List ℕ
unverified_line Pieces = text_line (codes "refused 31 unverified pieces")
unverified_line Umbrellas = text_line (codes "refused 31 unverified umbrellas")

-- The text of a mesh after what the options ask for is written. Unless the options leave it out, its header states them, its scale,
-- and the digest of the file that was read. Its numbers of points and faces are said, and after smoothing its scale.
pub record WritesFinished (output : List ℕ) (request : FinishRequest) (digest : List ℕ) (mesh : Surface) (answer : Answer) : Type 0 where
  pub finished : Surface
  pub fine : ℕ
  pub printed : IsPrinted finished.points finished.faces
  pub so : AreFinished request.options mesh.points mesh.faces finished.points finished.faces fine
  pub is : answer ≡ finish_done output request digest finished fine

-- the mesh is not closed, which the line says
pub record IsNotClosed (mesh : Surface) (answer : Answer) : Type 0 where
  pub from : ℕ
  pub to : ℕ
  pub there : ℕ
  pub back : ℕ
  pub first : IsFirstUnbalanced mesh.faces from to there back
  pub is : answer ≡ invalid 1 (not_closed_line from to there back)

-- a step that the options ask for did not pass its verification in a closed mesh, which the line states
pub record IsUnverified (options : FinishOptions) (mesh : Surface) (answer : Answer) : Type 0 where
  pub step : Step
  pub closed : IsBalanced mesh.faces
  pub why : IsUnverifiedStep options mesh.points mesh.faces step
  pub is : answer ≡ invalid 1 (unverified_line step)

-- it is said why no mesh is written
abbrev pub IsNotFinished : FinishOptions → Surface → Answer → Type 0
IsNotFinished options mesh answer = IsNotClosed mesh answer ⊎ IsUnverified options mesh answer

-- a finished mesh is written, or it is said why not
abbrev pub FinishAnswer : List ℕ → FinishRequest → (digest : List ℕ) → Surface → Answer → Type 0
FinishAnswer output request digest mesh answer = WritesFinished output request digest mesh answer ⊎ IsNotFinished request.options mesh answer

-- It reads the mesh, and writes a finished one if the mesh is valid. The digest is the SHA-256 of the bytes that were read, by the kit's
-- own definition.
abbrev pub finish_task : Names → FinishRequest → Task
finish_task names request =
    file_task ⊥ names.input (λ bytes provenance mesh answer. FinishAnswer names.output request (sha256 bytes) mesh answer)
