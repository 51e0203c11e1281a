-- The answers of commands: relations on bytes, independent of any host. `limit` is the maximal size of an input file in bytes.
--
--   Write                            a name, and the bytes that are written as its file
--   Answer                           a status, the number of files that were read, the files that are written, and the line
--   Task                             a command without its arguments: whether it may answer no, whether it may reject
--                                    its input, how many files it reads at most, and its answers for given files and a
--                                    limit on their length
--   MayEnd task status               the status is one that the task allows: no only if it may answer no, rejected only
--                                    if it may reject its input
--   invalid reads line               the answer that rejects an input
--   bad_arguments_answer             the answer to invalid arguments
--   file_limit                       the maximal size of an input file in bytes, for `run` and the program
--   FileTooLong limit reads line ..  a file is too long, and this many were read
--   MeshInvalid limit bytes ..       the file of the first input, a mesh, is not a mesh
--   IsUnreadMesh limit bytes answer  the mesh that a command reads first is rejected: the file is too long
--                                    (`FileTooLong`), or its bytes are not a mesh (`MeshInvalid`)
--   MeshAnswered limit Answers bytes answer
--                                    the bytes are the text of a mesh, not longer than the limit, and this is the
--                                    answer to that mesh
--   MeshFileAnswer limit Answers bytes answer   the answer of a command to the bytes of the mesh that it reads first
--   ToMesh limit input Answers files answer
--                                    the answer of a command to these files, which follows from the bytes of the named
--                                    mesh (`MeshFileAnswer`)
--   mesh_task Denies input ..        a command that reads one mesh
use Rattle.std.specs.Prelude.{ℕ, List, [], ◌≡◌, ◌<◌, length, ◌≤◌, Some, ◌⊎◌, ⊤}
use Rattle.mesh.specs.Meshes.{Surface}
use Rattle.mesh_ply.specs.Refusals.{IsRefusedMesh}
use Rattle.mesh_ply.specs.Texts.{mesh_text, IsPrinted}
use Rattle.mesh_ply.specs.declared.refusal.MeshRefusal.{MeshRefusal}
use Rattle.command_run.specs.Lines.{bad_arguments_line, too_long_mesh_line, mesh_error_line}
use Rattle.command_run.specs.declared.meshes.TheConstants.{FILE_LIMIT}
use Rattle.command_run.specs.declared.status.Status.{Status}
use Rattle.command_run.specs.declared.status.Status.TheVariants.{Refused, Done, No, BadArguments, Failed, NoMemory}
use Rattle.host.specs.State.{Files}

-- a name, and the bytes that are written as its file
abbrev pub Write : Type 0
Write = List ℕ × List ℕ

-- the result of a command: its status, the number of files it read, the files that it writes in order, and its line
pub record Answer : Type 0 where
  pub status : Status
  pub reads : ℕ
  pub writes : List Write
  pub line : List ℕ

-- A command without its arguments. Each may be done, may fail, and may run out of memory; this record states whether it may
-- answer no, whether it may reject an input, the maximal number of files it reads, and its answers for these files and this
-- maximal size of an input file.
pub record Task : Type 1 where
  pub Denies : Type 0
  pub Refuses : Type 0
  pub most : ℕ
  pub Answers : (limit : ℕ) → Files → Answer → Type 0

-- the statuses that a run of such a command may end with at all
abbrev pub MayEnd : Task → Status → Type 0
MayEnd task Done = ⊤
MayEnd task No = task.Denies
MayEnd task BadArguments = ⊥
MayEnd task Refused = task.Refuses
MayEnd task Failed = ⊤
MayEnd task NoMemory = ⊤

-- an input is rejected after this number of files was read: nothing is written
abbrev pub invalid : ℕ → List ℕ → Answer
invalid reads line = record { status = Refused; reads = reads; writes = []; line = line }

-- invalid arguments read and write nothing
abbrev pub bad_arguments_answer : Answer
bad_arguments_answer = record { status = BadArguments; reads = 0; writes = []; line = bad_arguments_line }

-- the maximal size of an input file in bytes, for `run` and the program
abbrev pub file_limit : ℕ
file_limit = FILE_LIMIT

-- a file is longer than the limit, and it is the last of this number of files that were read
pub record FileTooLong (limit : ℕ) (reads : ℕ) (line bytes : List ℕ) (answer : Answer) : Type 0 where
  pub longer : limit < length bytes
  pub is : answer ≡ invalid reads line

-- the bytes are not a mesh, and the first error is printed
pub record MeshInvalid (limit : ℕ) (bytes : List ℕ) (answer : Answer) : Type 0 where
  pub within : length bytes ≤ limit
  pub why : MeshRefusal
  pub refused : IsRefusedMesh bytes why
  pub line : List ℕ
  pub line_is : mesh_error_line why ≡ Some line
  pub is : answer ≡ invalid 1 line

-- the file of the first input, a mesh, is rejected, for its length or its content
abbrev pub IsUnreadMesh : (limit : ℕ) → (bytes : List ℕ) → Answer → Type 0
IsUnreadMesh limit bytes answer = FileTooLong limit 1 too_long_mesh_line bytes answer ⊎ MeshInvalid limit bytes answer

-- the bytes are the text of a mesh, with this answer
pub record MeshAnswered (limit : ℕ) (Answers : Surface → Answer → Type 0) (bytes : List ℕ) (answer : Answer) : Type 0 where
  pub within : length bytes ≤ limit
  pub mesh : Surface
  pub printed : IsPrinted mesh.points mesh.faces
  pub text_is : bytes ≡ mesh_text mesh.points mesh.faces
  pub answers : Answers mesh answer

-- the answer of a command to the bytes of its first input, a mesh: an error, or the answer to that mesh
abbrev pub MeshFileAnswer : (limit : ℕ) → (Surface → Answer → Type 0) → (bytes : List ℕ) → Answer → Type 0
MeshFileAnswer limit Answers bytes answer = IsUnreadMesh limit bytes answer ⊎ MeshAnswered limit Answers bytes answer

-- the same for these files, whose input is read first
abbrev pub ToMesh : (limit : ℕ) → (input : List ℕ) → (Surface → Answer → Type 0) → Files → Answer → Type 0
ToMesh limit input Answers files answer = (bytes : List ℕ) × (files input ≡ Some bytes) × MeshFileAnswer limit Answers bytes answer

-- a command that reads one mesh, and may reject it; this states whether it may also answer no
abbrev pub mesh_task : (Denies : Type 0) → (input : List ℕ) → (Surface → Answer → Type 0) → Task
mesh_task Denies input Answers =
    record { Denies = Denies; Refuses = ⊤; most = 1; Answers = λ limit. ToMesh limit input Answers }
