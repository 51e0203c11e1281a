-- The steps of a run, for any command: the reply is computed, and then carried out.
--
--   IsAnswered status                  a status that an answer may have
--   IsReplyOf task Answers ..          the reply may end a run of such a command, and is one of these answers
--   IsReplied limit task ..            the same with all answers of such a command
--   surface_of mesh                    the points and faces of a mesh that the program holds
--   IsUnderstoodMesh, IsMeshReading limit ..  the result of parsing the bytes of a mesh, and those of the named file
--   IsPrintedIfRead reading            a mesh that was read has a text
--   ReadsBy most Answers before after  the effect on the host of computing one of these answers
--   ReadsFor limit task ..             the same for all answers of such a command
--   CountsFaults result before after   the fault count, by whether there is a reply
--   IsWritten writes before after      files were written, and nothing was printed yet
--   CarriesAllOut, StopsOnTheWay       an answer was carried out, or a call failed on the way
--   CarriesOut                         one of the two
use Rattle.std.specs.Prelude.{⊤, ℕ, Some, IfSome, ◌≡◌, ◌≤◌, List, length, Ok, ◌+◌, false, Result, Err, ◌⊎◌}
use Rattle.host.specs.Counts.{Rose}
use Rattle.host.specs.State.{State, Told, Files}
use Rattle.host.specs.Whole.{apart_from_left}
use Rattle.mesh.specs.Meshes.{Surface}
use Rattle.mesh_ply.specs.Texts.{mesh_text, IsPrinted}
use Rattle.mesh.specs.declared.mesh.Mesh.{Mesh}
use Rattle.command_run.specs.Answers.{invalid, IsUnreadMesh, Answer, Write, MayEnd, Task}
use Rattle.command_run.specs.Outcome.{OpensNoMore, WhereTold, all_written, IsCarriedOut, StoppedIn}
use Rattle.command_run.specs.Replies.{answer_of, line_bytes}
use Rattle.command_run.specs.declared.reply.Reply.{Reply}
use Rattle.command_run.specs.declared.reply.Stop.{Stop}
use Rattle.command_run.specs.declared.status.Status.{Status}
use Rattle.command_run.specs.declared.status.Status.TheVariants.{Done, No, BadArguments, Refused, Failed, NoMemory}
use Rattle.command_run.specs.declared.meshes.MeshReading.{MeshReading}
use Rattle.command_run.specs.declared.meshes.MeshReading.TheVariants as readings
use Rattle.command_run.specs.declared.reply.Stop.TheVariants as stops

-- a status that an answer may have
abbrev pub IsAnswered : Status → Type 0
IsAnswered Done = ⊤
IsAnswered No = ⊤
IsAnswered BadArguments = ⊤
IsAnswered Refused = ⊤
IsAnswered Failed = ⊥
IsAnswered NoMemory = ⊥

-- the reply has a status that a run of such a command may end with, and is one of these answers to the files
pub record IsReplyOf (task : Task) (Answers : Files → Answer → Type 0) (reply : Reply) (before : State) : Type 0 where
  pub fits : MayEnd task reply.status
  pub answered : IsAnswered reply.status
  pub answers : IfSome before.told (λ told. (reads : ℕ) × Answers told.files (answer_of reads reply))

-- the same with all answers of such a command
abbrev pub IsReplied : (limit : ℕ) → Task → Reply → State → Type 0
IsReplied limit task = IsReplyOf task (task.Answers limit)

-- the points and faces of a mesh that the program holds
abbrev pub surface_of : Mesh → Surface
surface_of mesh = record { points = mesh.points.items; faces = mesh.faces.items }

-- the mesh whose text the bytes are, or the line that rejects them
abbrev pub IsUnderstoodMesh : (limit : ℕ) → (bytes : List ℕ) → MeshReading → Type 0
IsUnderstoodMesh limit bytes (readings.Mesh mesh) =
    (length bytes ≤ limit) × IsPrinted mesh.points.items mesh.faces.items
    × (bytes ≡ mesh_text mesh.points.items mesh.faces.items)
IsUnderstoodMesh limit bytes (readings.Refused line) = IsUnreadMesh limit bytes (invalid 1 (line_bytes line))

-- the same for the bytes of the named file
abbrev pub IsMeshReading : (limit : ℕ) → (name : List ℕ) → MeshReading → Told → Type 0
IsMeshReading limit name reading told = (bytes : List ℕ) × (told.files name ≡ Some bytes) × IsUnderstoodMesh limit bytes reading

-- a mesh that was read has a text, whether the host exposes it or not
abbrev pub IsPrintedIfRead : MeshReading → Type 0
IsPrintedIfRead (readings.Mesh mesh) = IsPrinted mesh.points.items mesh.faces.items
IsPrintedIfRead (readings.Refused line) = ⊤

-- only reads happened, and no more files were opened than the maximum and than each of these answers reads
pub record ReadsBy (most : ℕ) (Answers : Files → Answer → Type 0) (before after : State) : Type 0 where
  pub told : apart_from_left after.told ≡ apart_from_left before.told
  pub writing : after.writing ≡ false
  pub opens : after.opens ≤ before.opens + most
  pub no_more : OpensNoMore Answers before after

-- the same for all answers of such a command
abbrev pub ReadsFor : (limit : ℕ) → Task → State → State → Type 0
ReadsFor limit task = ReadsBy task.most (task.Answers limit)

-- the fault count rose if a call failed, and is else unchanged
abbrev pub CountsFaults : {T : Type 0} → Result T Stop → ℕ → ℕ → Type 0
CountsFaults (Ok reply) before after = after ≡ before
CountsFaults (Err stops.Failed) before after = Rose before after
CountsFaults (Err stops.NoMemory) before after = after ≡ before

-- files were written, and nothing was printed yet
pub record IsWritten (writes : List Write) (before after : State) : Type 0 where
  pub faults : after.faults ≡ before.faults
  pub opens : after.opens ≡ before.opens
  pub writing : after.writing ≡ false
  pub told : WhereTold before after (λ old new. (new.files ≡ all_written writes old.files) × (new.said ≡ old.said))

-- all files were written and the line was printed
pub record CarriesAllOut (writes : List Write) (line : List ℕ) (before after : State) : Type 0 where
  pub faults : after.faults ≡ before.faults
  pub opens : after.opens ≡ before.opens
  pub writing : after.writing ≡ false
  pub told : WhereTold before after (λ old new. IsCarriedOut writes line old new)

-- a call failed on the way
pub record StopsOnTheWay (writes : List Write) (line : List ℕ) (before after : State) : Type 0 where
  pub faults : Rose before.faults after.faults
  pub opens : after.opens ≡ before.opens
  pub writing : after.writing ≡ false
  pub told : WhereTold before after (λ old new. StoppedIn writes line old new)

-- the answer was carried out, or a call failed on the way
abbrev pub CarriesOut : List Write → List ℕ → (status result : Status) → State → State → Type 0
CarriesOut writes line status result before after =
    ((result ≡ status) × CarriesAllOut writes line before after) ⊎ ((result ≡ Failed) × StopsOnTheWay writes line before after)
