-- The effect of a run with mesh writers: the contract of `run_forms`, and of `run_forms_within` at any limit.
--
-- `limit` is the maximal size of an input file in bytes, `received` and `text_of` give what a writer has received and its text,
-- `code` is the exit status, `before` and `after` are the states of the host, and `old` and `new` are the writers.
--
--   Exports limit received text_of words code before after old new
--                                        a postcondition of `run_forms` (with `file_limit`) and `run_forms_within`: if
--                                        the arguments are `export` to the given mesh writers, the run exits with a
--                                        status with which `ExportOutcome` holds
--   Sweeps limit received text_of words code before after old new   the same for `sweep` and `SweepOutcome`
--   RunsOtherwise limit words code before after old new
--                                        the same for all other arguments and `OutcomeWithin`; the writers are left as
--                                        they are
use Rattle.std.specs.Prelude.{ℕ, List, ◌≡◌, length, map, IfSome, None}
use Rattle.host.specs.State.{State}
use Rattle.mesh_form.specs.Received.{Received}
use Rattle.command_run.specs.Status.{ExitsWith, code_of}
use Rattle.command_run.specs.declared.status.Status.{Status}
use Rattle.recon_cmd.specs.Commands.{OutcomeWithin, command_of}
use Rattle.recon_cmd.specs.Export.{ExportOutcome, export_of}
use Rattle.recon_cmd.specs.Sweep.{SweepOutcome, sweep_of}

-- if the arguments are `export` with as many outputs as there are writers, the outcome of `export` holds with the exit status
abbrev pub Exports : {Form : Type 0} → (limit : ℕ) → (received : Form → Received) → (text_of : Form → List ℕ)
    → (words : List (List ℕ))
    → (code : ℕ) → (before after : State) → (old new : List Form) → Type 0
Exports limit received text_of words code before after old new =
    IfSome (export_of (length old) words)
    (λ names. ExitsWith code
    (λ status. ExportOutcome limit names status before after (map received old) (map received new) (map text_of new)))

-- if the arguments are `sweep` with as many outputs as there are writers, the outcome of `sweep` holds with the exit status
abbrev pub Sweeps : {Form : Type 0} → (limit : ℕ) → (received : Form → Received) → (text_of : Form → List ℕ)
    → (words : List (List ℕ))
    → (code : ℕ) → (before after : State) → (old new : List Form) → Type 0
Sweeps limit received text_of words code before after old new =
    IfSome (sweep_of (length old) words)
    (λ asked. ExitsWith code
    (λ status. SweepOutcome limit asked status before after (map received old) (map received new) (map text_of new)))

-- if the arguments are neither, the outcome of their command, or that of invalid arguments, holds with the exit status, and the
-- writers are unchanged
abbrev pub RunsOtherwise : {Form : Type 0} → (limit : ℕ) → (words : List (List ℕ)) → (code : ℕ) → (before after : State)
    → (old new : List Form)
    → Type 0
RunsOtherwise limit words code before after old new =
    export_of (length old) words ≡ None → sweep_of (length old) words ≡ None
    → (status : Status) × (code ≡ code_of status) × OutcomeWithin limit (command_of words) status before after × (new ≡ old)
