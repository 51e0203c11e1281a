-- How the program ends, given the arguments from the system.
--
--   WritesFormats outputs mesh answer   the answer that writes a mesh to three outputs: as PLY, as OFF and as OBJ
--   FormatsAnswer names files answer    what `export` with three outputs answers: the mesh is rejected, or its mesh
--                                       text, OFF and OBJ are written
--   WritesMeshes asked scan answer      the answer that writes the best surface of the scan at each area weight of a
--                                       sweep as PLY, and prints the costs of the first and the last
--   MeshesAnswer asked files answer     what it answers: the scan is rejected, or the mesh texts of its best surfaces
--                                       are written
--   sweep_in words                      what `sweep` asks for, with as many outputs as its fifth argument says
--   RunsFor export sweep words status before after
--                                       what a run on these arguments does to its host: that of `export` to three
--                                       outputs, of `sweep`, or else of another command (`Outcome`)
--   RunsOn words status before after    a run on these arguments ended with this status
--   DoesNothing status before after     the status is 5 and the host is as it was
--   RunsOrIdles words code before after
--                                       a run on these arguments ended with this status (`RunsOn`), or memory ran out
--                                       before it and nothing was done (`DoesNothing`)
--   EndsOn args status before after     the postcondition of `ends`: a run on the arguments after the name, or nothing
--                                       done if memory runs out. If the system gives an error for the arguments, it is
--                                       a run on none, or nothing done if the error is out of memory
--   EndsAfterARun status                `ends_over` on some arguments, over a host that was not used. That says little
--                                       more about a status than that it is one of the six
use Rattle.std.specs.Prelude.{◌≡◌, ◌≢◌, ◌⊎◌, ℕ, ◌-◌, ◌<◌, List, [], ◌∷◌, length, map, slice_index_or, Result, Ok, Err, Option, Some}
use Rattle.std.specs.Prelude.{None, unwrap_or}
use Rattle.std.specs.IoError.{error_kind}
use Rattle.std.specs.List.{zip}
use Rattle.host.specs.State.{State, Files}
use Rattle.mesh_form.specs.Texts.{off_text, obj_text}
use Rattle.mesh.specs.Meshes.{Surface}
use Rattle.mesh_ply.specs.Texts.{mesh_text}
use Rattle.scan_rows.specs.Shown.{Shown}
use Rattle.sweep.specs.Entries.{CostsAt, IsSurfaceAt, given_by, smoothing_of}
use Rattle.real_host.specs.Start.{arguments_of, fresh_state}
use Rattle.command_run.specs.Answers.{Answer, MeshFileAnswer, file_limit}
use Rattle.command_run.specs.Outcome.{Run}
use Rattle.command_run.specs.Status.{ExitsWith, code_of}
use Rattle.command_run.specs.declared.status.Status.{Status}
use Rattle.command_run.specs.declared.status.Status.TheVariants.{Done, NoMemory}
use Rattle.recon_cmd.specs.Answers.{MayRefuse, ToScan}
use Rattle.recon_cmd.specs.Export.{ExportNames, export_of, exported_line}
use Rattle.recon_cmd.specs.Commands.{Outcome, command_of}
use Rattle.recon_cmd.specs.Sweep.{SweepAsked, entries_of, sweep_line, sweep_of}
use Rattle.std.specs.declared.io.Error.{Error}
use Rattle.std.specs.declared.io.ErrorKind.TheVariants.{OutOfMemory}
use Rattle.std.specs.declared.alloc.Global.{Global}
use Rattle.std.specs.declared.string.String.{String}
use Rattle.std.specs.declared.vec.IntoIter.{IntoIter}

-- the mesh is written as PLY, as OFF and as OBJ, in this order
abbrev pub WritesFormats : (outputs : List (List ℕ)) → Surface → Answer → Type 0
WritesFormats outputs mesh answer =
    answer ≡ record {
      status = Done;
      reads = 1;
      writes =
          zip outputs
          (mesh_text mesh.points mesh.faces ∷ off_text mesh.points mesh.faces ∷ obj_text mesh.points mesh.faces ∷ []);
      line = exported_line (length outputs) (length mesh.points) (length mesh.faces);
    }

-- the mesh is rejected, or written in the three formats
abbrev pub FormatsAnswer : ExportNames → Files → Answer → Type 0
FormatsAnswer names files answer =
    (bytes : List ℕ) × (files names.mesh ≡ Some bytes) × MeshFileAnswer file_limit (WritesFormats names.outputs) bytes answer

-- the mesh of the best surface at each weight is written as PLY, in order, and the costs of the first and the last are printed
pub record WritesMeshes (asked : SweepAsked) (scan : Shown) (answer : Answer) : Type 0 where
  pub meshes : List Surface
  pub count : length meshes ≡ length asked.outputs
  pub each : (k : ℕ) (d : Surface) → k < length meshes
      → IsSurfaceAt (given_by scan) asked.options.vote (smoothing_of asked.options.smooth asked.step k) (slice_index_or meshes k d)
  pub first : ℕ
  pub last : ℕ
  pub first_is : CostsAt (given_by scan) asked.options.vote asked.options.smooth first
  pub last_is : CostsAt (given_by scan) asked.options.vote
      (smoothing_of asked.options.smooth asked.step (length asked.outputs - 1)) last
  pub is : answer ≡ record {
    status = Done;
    reads = 1;
    writes = zip asked.outputs (map (λ (mesh : Surface). mesh_text mesh.points mesh.faces) meshes);
    line = sweep_line (length asked.outputs) first last;
  }

-- the scan is rejected, or its best surfaces are written
abbrev pub MeshesAnswer : SweepAsked → Files → Answer → Type 0
MeshesAnswer asked = ToScan file_limit asked.input asked.options (λ _. WritesMeshes asked)

-- the request of `sweep` with as many outputs as its fifth argument states, if the arguments are `sweep`
abbrev pub sweep_in : List (List ℕ) → Option SweepAsked
sweep_in words = sweep_of (unwrap_or (entries_of words) 0) words

-- the effect of a run on these arguments that ends with this status: `export` with three outputs, `sweep`, or else a command of
-- `run`
abbrev pub RunsFor : Option ExportNames → Option SweepAsked → List (List ℕ) → Status → State → State → Type 0
RunsFor (Some names) sweep words status before after = Run MayRefuse 1 (FormatsAnswer names) status before after
RunsFor None (Some asked) words status before after = Run MayRefuse 1 (MeshesAnswer asked) status before after
RunsFor None None words status before after = Outcome (command_of words) status before after

-- a run on these arguments ended with this status
abbrev pub RunsOn : List (List ℕ) → ℕ → State → State → Type 0
RunsOn words code before after =
    ExitsWith code (λ status. RunsFor (export_of 3 words) (sweep_in words) words status before after)

-- memory ran out for the arguments or for the writers, and nothing is done
abbrev pub DoesNothing : ℕ → State → State → Type 0
DoesNothing code before after = (code ≡ code_of NoMemory) × (after ≡ before)

-- a run on these arguments, or memory ran out for it
abbrev pub RunsOrIdles : List (List ℕ) → ℕ → State → State → Type 0
RunsOrIdles words code before after = RunsOn words code before after ⊎ DoesNothing code before after

-- a run on the arguments after the program's name, if there is memory for them and for the writers; arguments that are not text
-- are no arguments
abbrev pub EndsOn : {A : Type 0} → Result (IntoIter (String A) A) Error → ℕ → State → State → Type 0
EndsOn (Ok args) code before after = RunsOrIdles (arguments_of args) code before after
EndsOn (Err error) code before after =
    ((error_kind error ≡ OutOfMemory) × DoesNothing code before after)
    ⊎ ((error_kind error ≢ OutOfMemory) × RunsOn [] code before after)

-- the program ended with this status on some arguments from the system, over a fresh host
abbrev pub EndsAfterARun : ℕ → Type 0
EndsAfterARun code =
    (args : Result (IntoIter (String Global) Global) Error) × (after : State) × EndsOn args code fresh_state after
