-- An input of a command: a mesh as `build` writes it, or with comments as `finish` does.
--
--   too_long_out_line                    the line for the file of a finished mesh that is too long
--   out_error_line why                   the line that rejects the file of a finished mesh
--   too_long_targets_line, targets_error_line why   the same for the file of targets
--   reads_at role                        by the role of a file (the original mesh, the finished one, or targets): how
--                                        many files have been read, this one included (1 or 2)
--   too_long_at role                     the line if it is too long
--   error_line_at role why               the line for its first error
--   FileInvalid role limit bytes answer  the bytes are no mesh, with comments or without, and the first error is
--                                        printed
--   IsUnreadFile role limit bytes answer the file is too long, or it is neither
--   Answering                            the answers to the bytes of a file with this provenance and mesh
--   FileAnswered limit Answers bytes answer
--                                        the bytes are a mesh, with comments or without, and this is the answer to it
--   ToInput role limit name Answers files answer
--                                        the answer of a command to these files, which follows from the named one
--   file_task Denies input Answers       a command that reads one mesh, with comments or without
--   pair_task Denies role first second Answers
--                                        a command that reads one mesh, and if that is valid another in this role
--   surface_of_input input               the points and faces of a mesh that the program holds
--   IsUnderstoodInput, IsInputReading    the result of parsing the bytes of a file, and those of the named file
--   IsFileIfRead reading                 a mesh that was read has a text
use Rattle.std.specs.Prelude.{ℕ, List, codes, ◌≡◌, length, ◌≤◌, Option, Some, None, ◌⊎◌, ⊤}
use Rattle.host.specs.State.{Files, Told}
use Rattle.sha2.specs.Sha256.{sha256}
use Rattle.mesh.specs.Meshes.{Surface}
use Rattle.mesh_ply.specs.declared.refusal.MeshRefusal.{MeshRefusal}
use Rattle.mesh_ply.specs.declared.refusal.MeshRefusal.TheVariants as meshes
use Rattle.mesh_provenance.specs.Laws.{IsFile}
use Rattle.mesh_provenance.specs.Refusals.{IsRefusedFile}
use Rattle.mesh_provenance.specs.Texts.{file_text}
use Rattle.mesh_provenance.specs.declared.provenance.Provenance.{Provenance}
use Rattle.command_run.specs.Answers.{Answer, Task, FileTooLong, invalid}
use Rattle.command_run.specs.Lines.{number_line, text_line, too_long_mesh_line, mesh_error_line}
use Rattle.command_run.specs.Replies.{line_bytes}
use Rattle.command_run.specs.Steps.{surface_of}
use Rattle.mesh_cmd.specs.declared.input.InputMesh.{InputMesh}
use Rattle.mesh_cmd.specs.declared.input.InputReading.{InputReading}
use Rattle.mesh_cmd.specs.declared.input.InputReading.TheVariants as readings
use Rattle.mesh_cmd.specs.declared.input.Role.{Role}
use Rattle.mesh_cmd.specs.declared.input.Role.TheVariants.{First, Finished, Targets}

-- the line for the file of a finished mesh that is longer than the limit
unfoldable pub too_long_out_line : List ℕ
too_long_out_line = codes "refused 19 too_long out\n"

-- the line for the error of a finished mesh; out of memory has none
abbrev pub out_error_line : MeshRefusal → Option (List ℕ)
out_error_line (meshes.BadLine line) = Some (number_line (codes "refused 32 out_line line ") line)
out_error_line meshes.MeshCut = Some (text_line (codes "refused 33 out_cut"))
out_error_line meshes.NoMemory = None

-- the line for the file of targets that is longer than the limit
unfoldable pub too_long_targets_line : List ℕ
too_long_targets_line = codes "refused 19 too_long targets\n"

-- the line for the error of targets; out of memory has none
abbrev pub targets_error_line : MeshRefusal → Option (List ℕ)
targets_error_line (meshes.BadLine line) = Some (number_line (codes "refused 34 targets_line line ") line)
targets_error_line meshes.MeshCut = Some (text_line (codes "refused 35 targets_cut"))
targets_error_line meshes.NoMemory = None

-- how many files are read with this one
abbrev pub reads_at : Role → ℕ
reads_at First = 1
reads_at Finished = 2
reads_at Targets = 2

-- the line for a file that is longer than the limit
abbrev pub too_long_at : Role → List ℕ
too_long_at First = too_long_mesh_line
too_long_at Finished = too_long_out_line
too_long_at Targets = too_long_targets_line

-- the line for the error of a file
abbrev pub error_line_at : Role → MeshRefusal → Option (List ℕ)
error_line_at First why = mesh_error_line why
error_line_at Finished why = out_error_line why
error_line_at Targets why = targets_error_line why

-- the bytes are not a mesh, with comments or without, and the first error is printed
pub record FileInvalid (role : Role) (limit : ℕ) (bytes : List ℕ) (answer : Answer) : Type 0 where
  pub within : length bytes ≤ limit
  pub why : MeshRefusal
  pub refused : IsRefusedFile bytes why
  pub line : List ℕ
  pub line_is : error_line_at role why ≡ Some line
  pub is : answer ≡ invalid (reads_at role) line

-- a file is rejected: it is too long (`FileTooLong`), or no mesh with comments or without (`FileInvalid`)
abbrev pub IsUnreadFile : Role → (limit : ℕ) → (bytes : List ℕ) → Answer → Type 0
IsUnreadFile role limit bytes answer =
    FileTooLong limit (reads_at role) (too_long_at role) bytes answer ⊎ FileInvalid role limit bytes answer

-- the answers to the bytes of a file with this provenance, if it states one, and this mesh
abbrev pub Answering : Type 1
Answering = List ℕ → Option Provenance → Surface → Answer → Type 0

-- the bytes are the text of a mesh, with comments or without, with this answer
pub record FileAnswered (limit : ℕ) (Answers : Answering) (bytes : List ℕ) (answer : Answer) : Type 0 where
  pub within : length bytes ≤ limit
  pub provenance : Option Provenance
  pub mesh : Surface
  pub file : IsFile provenance mesh.points mesh.faces
  pub text_is : bytes ≡ file_text provenance mesh.points mesh.faces
  pub answers : Answers bytes provenance mesh answer

-- the answer of a command to these files: the named one, in this role, is rejected, or it is a mesh with this answer
abbrev pub ToInput : Role → (limit : ℕ) → (name : List ℕ) → Answering → Files → Answer → Type 0
ToInput role limit name Answers files answer =
    (bytes : List ℕ) × (files name ≡ Some bytes) × (IsUnreadFile role limit bytes answer ⊎ FileAnswered limit Answers bytes answer)

-- a command that reads one mesh, with comments or without, and may reject it; this states whether it may also answer no
abbrev pub file_task : (Denies : Type 0) → (input : List ℕ) → Answering → Task
file_task Denies input Answers =
    record { Denies = Denies; Refuses = ⊤; most = 1; Answers = λ limit. ToInput First limit input Answers }

-- the answers to the second file, in this role, after a mesh whose file has this digest
abbrev pub Second : Type 1
Second = (digest : List ℕ) → Surface → Answering

-- A command that reads one mesh, and if that is valid another in this role; it may reject both. This states whether it may also answer no.
abbrev pub pair_task : (Denies : Type 0) → Role → (first second : List ℕ) → Second → Task
pair_task Denies role first second Answers =
    record {
      Denies = Denies;
      Refuses = ⊤;
      most = 2;
      Answers =
          λ limit files.
          ToInput First limit first (λ bytes _ mesh. ToInput role limit second (Answers (sha256 bytes) mesh) files) files;
    }

-- the points and faces of a mesh that the program holds
abbrev pub surface_of_input : InputMesh → Surface
surface_of_input input = surface_of input.mesh

-- the mesh whose text the bytes are, with its provenance and the digest of the bytes, or the line that rejects them
abbrev pub IsUnderstoodInput : Role → (limit : ℕ) → (bytes : List ℕ) → InputReading → Type 0
IsUnderstoodInput role limit bytes (readings.Mesh input) =
    (length bytes ≤ limit) × IsFile input.provenance input.mesh.points.items input.mesh.faces.items
    × (bytes ≡ file_text input.provenance input.mesh.points.items input.mesh.faces.items) × (input.digest ≡ sha256 bytes)
IsUnderstoodInput role limit bytes (readings.Refused line) =
    IsUnreadFile role limit bytes (invalid (reads_at role) (line_bytes line))

-- the same for the bytes of the named file
abbrev pub IsInputReading : Role → (limit : ℕ) → (name : List ℕ) → InputReading → Told → Type 0
IsInputReading role limit name reading told =
    (bytes : List ℕ) × (told.files name ≡ Some bytes) × IsUnderstoodInput role limit bytes reading

-- a mesh that was read has a text, whether the host exposes it or not
abbrev pub IsFileIfRead : InputReading → Type 0
IsFileIfRead (readings.Mesh input) = IsFile input.provenance input.mesh.points.items input.mesh.faces.items
IsFileIfRead (readings.Refused line) = ⊤
