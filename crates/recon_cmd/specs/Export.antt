-- `export MESH OUT1 .. OUTn`: a mesh in the formats of the writers that were passed. Its answer depends on these writers, so it
-- is not a command of the program alone.
--
--   ExportNames                      the names of `export`: the mesh and the outputs
--   export_behind forms words        the request in the arguments after `export`, if they name this number of outputs
--   export_of forms words            the mesh and the outputs of `export`, if there are as many outputs as mesh writers
--   export_names words               the file names that the program holds for `export`, in the form that definitions
--                                    use
--   exported_line forms points faces   the line that `export` prints when it is done
--   HaveAll, HaveFronts mesh forms   each writer has received the whole mesh; a prefix of it
--   WritesForms outputs ..           the answer that writes the writers' texts
--   ExportAnswer limit names forms texts files answer
--                                    the mesh is rejected; or each mesh writer has received all of it, and the writers'
--                                    texts are written to the outputs, in order
--   IsFileOf name mesh before        if the host exposes its files, the named one is the mesh's text
--   AreHandedFronts name before ..   the writers are unchanged, or have received prefixes of the mesh
--   FormsAfter name status before old new
--                                    after status 0 each mesh writer has received exactly the mesh of the named file.
--                                    After 3 the writers are as they were. After 4 and 5 each has received a prefix of
--                                    that mesh, or they are as they were
--   FormsHandOut outputs mesh ..     the continuation after the mesh was read
--   ExportOutcome limit names ..     the effect of a run on its host and on the writers
use Rattle.std.specs.List.{zip}
use Rattle.std.specs.Prelude.{ℕ, List, [], ◌∷◌, ◌&&◌, ◌==◌, nat_le, length, Option, Some, None, if◌then◌else◌, codes, map, string_bytes}
use Rattle.std.specs.Prelude.{◌++◌, All, ◌≡◌, IfSome, ◌⊎◌}
use Rattle.std.specs.Str.{bytes_eq}
use Rattle.host.specs.State.{Files, State}
use Rattle.mesh_form.specs.Received.{Received, HasAll, HasFront}
use Rattle.mesh.specs.Meshes.{Surface}
use Rattle.mesh_ply.specs.Texts.{mesh_text}
use Rattle.command_run.specs.Answers.{Answer, ToMesh}
use Rattle.command_run.specs.Lines.{labelled}
use Rattle.command_run.specs.Outcome.{Run}
use Rattle.command_run.specs.Steps.{CarriesOut}
use Rattle.command_run.specs.Words.{are_names}
use Rattle.command_run.specs.declared.status.Status.{Status}
use Rattle.command_run.specs.declared.status.Status.TheVariants.{Done, No, BadArguments, Refused, Failed, NoMemory}
use Rattle.recon_cmd.specs.Answers.{MayRefuse}
use Rattle.recon_cmd.specs.declared.commands.export.ExportWords.{ExportWords}

-- the names of `export MESH OUT1 .. OUTn`
pub record ExportNames : Type 0 where
  pub mesh : List ℕ
  pub outputs : List (List ℕ)

-- a mesh, and as many outputs as there are writers, at least one
abbrev pub export_behind : (forms : ℕ) → List (List ℕ) → Option ExportNames
export_behind forms (mesh ∷ outputs) =
    if nat_le 1 forms && ((length outputs == forms) && are_names (mesh ∷ outputs))
    then Some (record { mesh = mesh; outputs = outputs })
    else None
export_behind forms [] = None

-- the command, with these arguments after it
abbrev pub export_of : (forms : ℕ) → List (List ℕ) → Option ExportNames
export_of forms (word ∷ words) = if bytes_eq word (codes "export") then export_behind forms words else None
export_of forms [] = None

-- the names that the program holds
abbrev pub export_names : ExportWords → ExportNames
export_names words = record { mesh = words.mesh.now; outputs = map string_bytes words.outputs.now }

-- `exported n points N faces M`
unfoldable pub exported_line : (forms points faces : ℕ) → List ℕ
exported_line forms points faces =
    labelled (codes "exported ") forms
    ++ (labelled (codes " points ") points ++ (labelled (codes " faces ") faces ++ (10 ∷ [])))

-- each writer has received the whole mesh
abbrev pub HaveAll : Surface → List Received → Type 0
HaveAll mesh forms = All (λ r. HasAll r mesh.points mesh.faces) forms

-- each writer has received a prefix of the mesh, possibly all of it
abbrev pub HaveFronts : Surface → List Received → Type 0
HaveFronts mesh forms = All (λ r. HasFront r mesh.points mesh.faces) forms

-- each writer has received the whole mesh, and their texts are written to the outputs, in order
pub record WritesForms (outputs : List (List ℕ)) (forms : List Received) (texts : List (List ℕ)) (mesh : Surface)
    (answer : Answer) : Type 0 where
  pub each : HaveAll mesh forms
  pub is : answer ≡ record {
    status = Done;
    reads = 1;
    writes = zip outputs texts;
    line = exported_line (length outputs) (length mesh.points) (length mesh.faces);
  }

-- the mesh is rejected, or the texts of these writers are written
abbrev pub ExportAnswer : (limit : ℕ) → ExportNames → (forms : List Received) → (texts : List (List ℕ)) → Files → Answer → Type 0
ExportAnswer limit names forms texts = ToMesh limit names.mesh (WritesForms names.outputs forms texts)

-- if the host exposes its files, the named one is the mesh's text
abbrev pub IsFileOf : (name : List ℕ) → Surface → State → Type 0
IsFileOf name mesh before = IfSome before.told (λ told. told.files name ≡ Some (mesh_text mesh.points mesh.faces))

-- the writers are unchanged, or each has received a prefix of the mesh of the named file
abbrev pub AreHandedFronts : (name : List ℕ) → State → (old new : List Received) → Type 0
AreHandedFronts name before old new = (new ≡ old) ⊎ ((mesh : Surface) × IsFileOf name mesh before × HaveFronts mesh new)

-- what the writers have received after a run that ended with this status
abbrev pub FormsAfter : (name : List ℕ) → Status → State → (old new : List Received) → Type 0
FormsAfter name Done before old new = (mesh : Surface) × IsFileOf name mesh before × HaveAll mesh new
FormsAfter name Refused before old new = new ≡ old
FormsAfter name Failed before old new = AreHandedFronts name before old new
FormsAfter name NoMemory before old new = AreHandedFronts name before old new
FormsAfter name No before old new = ⊥
FormsAfter name BadArguments before old new = ⊥

-- The continuation after the mesh was read: memory ran out, and each writer has received a prefix of it; or each has received
-- all of it, and their texts are written up to a call that failed.
abbrev pub FormsHandOut : (outputs : List (List ℕ)) → Surface → Status → State → State → (new : List Received)
    → (texts : List (List ℕ)) → Type 0
FormsHandOut outputs mesh status before after new texts =
    ((status ≡ NoMemory) × HaveFronts mesh new × (after ≡ before))
    ⊎ (HaveAll mesh new × CarriesOut (zip outputs texts)
    (exported_line (length outputs) (length mesh.points) (length mesh.faces)) Done status before after)

-- the effect of a run of `export` on its host, and on writers that had received `old`, have received `new` and have these texts
pub record ExportOutcome (limit : ℕ) (names : ExportNames) (status : Status) (before after : State) (old new : List Received)
    (texts : List (List ℕ)) : Type 0 where
  pub run : Run MayRefuse 1 (ExportAnswer limit names new texts) status before after
  pub forms : FormsAfter names.mesh status before old new
