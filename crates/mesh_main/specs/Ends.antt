-- How the program ends, by the arguments that the system gives.
--
--   RunsOn words code before after    a run on these arguments ended with this status
--   DoesNothing code before after     there was no memory for the arguments
--   EndsOn args code before after     the program ended with this status on the arguments that the system gave
--   EndsAfterARun code                the program ended with this status on some arguments, over a host that was not
--                                     used
use Rattle.std.specs.Prelude.{◌≡◌, ◌≢◌, ◌⊎◌, ℕ, List, [], map, string_bytes, Result, Ok, Err}
use Rattle.std.specs.IoError.{error_kind}
use Rattle.std.specs.declared.alloc.Global.{Global}
use Rattle.std.specs.declared.io.Error.{Error}
use Rattle.std.specs.declared.io.ErrorKind.TheVariants.{OutOfMemory}
use Rattle.std.specs.declared.string.String.{String}
use Rattle.std.specs.declared.vec.IntoIter.{IntoIter}
use Rattle.host.specs.State.{State}
use Rattle.real_host.specs.Start.{arguments_of, fresh_state}
use Rattle.command_run.specs.Status.{ExitsWith, code_of}
use Rattle.command_run.specs.declared.status.Status.TheVariants.{NoMemory}
use Rattle.mesh_cmd.specs.Commands.{Outcome, command_of}

-- a run on these arguments ended with this status
abbrev pub RunsOn : List (List ℕ) → ℕ → State → State → Type 0
RunsOn words code before after = ExitsWith code (λ status. Outcome (command_of words) status before after)

-- there was no memory for the arguments, and nothing is done
abbrev pub DoesNothing : ℕ → State → State → Type 0
DoesNothing code before after = (code ≡ code_of NoMemory) × (after ≡ before)

-- a run on the arguments after the program's name, if there is memory for them; arguments that are not UTF-8 are none
abbrev pub EndsOn : {A : Type 0} → Result (IntoIter (String A) A) Error → ℕ → State → State → Type 0
EndsOn (Ok args) code before after = RunsOn (arguments_of args) code before after ⊎ DoesNothing code before after
EndsOn (Err error) code before after =
    ((error_kind error ≡ OutOfMemory) × DoesNothing code before after)
    ⊎ ((error_kind error ≢ OutOfMemory) × RunsOn [] code before after)

-- the system gave some arguments, and the program ended so on them, over a host that was not used
abbrev pub EndsAfterARun : ℕ → Type 0
EndsAfterARun code =
    (args : Result (IntoIter (String Global) Global) Error) × (after : State) × EndsOn args code fresh_state after
