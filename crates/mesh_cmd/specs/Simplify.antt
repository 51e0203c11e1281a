-- `simplify MESH OUT`: a mesh with fewer faces, from which no corner of the original is farther than a distance.
--
--   simplify_names words                  the file names that the program holds for `simplify`, in the form that definitions use
--   simplified_line points faces          the line that `simplify` prints
--   simplify_stated request digest        where a mesh comes from, if its file states that
--   simplify_done output request ..       the answer that writes this mesh
--   WritesSimplified output request ..    the answer writes a simplified mesh
--   SimplifyAnswer output request ..      a simplified mesh is written, or it is said that the mesh is not closed
--   simplify_task names request           the command `simplify`
use Rattle.std.specs.Prelude.{ℕ, List, [], ◌∷◌, ◌++◌, codes, ◌≡◌, ◌⊎◌, length, Option, None, Some, if◌then◌else◌}
use Rattle.sha2.specs.Sha256.{sha256}
use Rattle.mesh.specs.Meshes.{Surface}
use Rattle.mesh_ply.specs.Texts.{IsPrinted}
use Rattle.mesh_provenance.specs.Texts.{file_text}
use Rattle.mesh_provenance.specs.declared.provenance.Provenance.{Provenance}
use Rattle.finish_options.specs.declared.options.Made.TheVariants as making
use Rattle.mesh_simplify.specs.Simplified.{IsSimplified, IsNearIfAsked}
use Rattle.command_run.specs.Answers.{Answer, Task}
use Rattle.command_run.specs.Lines.{labelled}
use Rattle.command_run.specs.Words.{Names}
use Rattle.command_run.specs.declared.status.Status.TheVariants.{Done}
use Rattle.mesh_cmd.specs.Finish.{IsNotClosed}
use Rattle.mesh_cmd.specs.Input.{file_task}
use Rattle.mesh_cmd.specs.declared.commands.simplify.SimplifyWords.{SimplifyWords}
use Rattle.mesh_cmd.specs.declared.simplify_request.SimplifyRequest.{SimplifyRequest}

-- the names that the program holds
abbrev pub simplify_names : SimplifyWords → Names
simplify_names words = record { input = words.mesh.now; output = words.output.now }

-- `simplified points N faces M`
unfoldable pub simplified_line : (points faces : ℕ) → List ℕ
simplified_line points faces =
    labelled (codes "simplified points ") points ++ (labelled (codes " faces ") faces ++ (10 ∷ []))

-- the options and the digest of the file that was read, unless the header is to have no comments; the scale stays
abbrev pub simplify_stated : SimplifyRequest → (digest : List ℕ) → Option Provenance
simplify_stated request digest =
    if request.comments then Some (record { made = making.Simplify request.options; fine = 1; digest = digest }) else None

-- the answer that writes the text of this mesh, with where it comes from
abbrev pub simplify_done : (output : List ℕ) → SimplifyRequest → (digest : List ℕ) → Surface → Answer
simplify_done output request digest mesh =
    record {
      status = Done;
      reads = 1;
      writes = (output, file_text (simplify_stated request digest) mesh.points mesh.faces) ∷ [];
      line = simplified_line (length mesh.points) (length mesh.faces);
    }

-- The text of a simplified mesh is written, which is near the given one at all points if that was asked. Unless the options leave it out, its header states them and the digest of the file that was
-- read. Its numbers of points and faces are said.
pub record WritesSimplified (output : List ℕ) (request : SimplifyRequest) (digest : List ℕ) (mesh : Surface) (answer : Answer) : Type 0 where
  pub simplified : Surface
  pub printed : IsPrinted simplified.points simplified.faces
  pub so : IsSimplified request.options.moves request.options.within mesh.points mesh.faces simplified.points simplified.faces
  pub near : IsNearIfAsked request.options.surface request.options.within mesh.points mesh.faces simplified.points simplified.faces
  pub is : answer ≡ simplify_done output request digest simplified

-- a simplified mesh is written, or it is said that the mesh is not closed
abbrev pub SimplifyAnswer : List ℕ → SimplifyRequest → (digest : List ℕ) → Surface → Answer → Type 0
SimplifyAnswer output request digest mesh answer = WritesSimplified output request digest mesh answer ⊎ IsNotClosed mesh answer

-- It reads the mesh, and writes a simplified one if the mesh is valid. The digest is the SHA-256 of the bytes that were read, by the kit's
-- own definition.
abbrev pub simplify_task : Names → SimplifyRequest → Task
simplify_task names request =
    file_task ⊥ names.input (λ bytes provenance mesh answer. SimplifyAnswer names.output request (sha256 bytes) mesh answer)
