-- The commands: their arguments, and their definitions.
--
--   Asked                               a command with its names and options
--   asked_by make words                 the result of names and options, if the arguments have this shape
--   cells_of, build_of, check_of, upgrade_of, ask_of    the command with these names and options
--   slice_of, demo_of                   the command with other arguments
--   command_of words                    the command that a list of arguments is, or none
--   asked command                       the definition of a command of the program
--   task_of asked                       a command without its arguments: whether it may answer no, whether it may
--                                       reject its input, how many files it reads at most, and its answers for given
--                                       files and a limit on their length
--   AnswerWithin limit asked files answer
--                                       what a command answers, if the files are these and a file that is read may have
--                                       as many bytes as the limit: its status, how many files it reads, the texts that
--                                       it writes in order, and its line
--   AnswerOf asked files answer         the same with the limit `file_limit`
--   most_reads asked                    the maximal number of files that a command reads
--   StatusFits status asked             the possible statuses of a command
--   EndsWith, Tells                     the exposed state after a run of a command
--   OutcomeWithin limit asked status before after   the same, with the answers of a command at a limit
--   Outcome asked status before after   the same at `file_limit`
--   asked_command request               the requested command, if there is one
--   asked_export request                the request of `export`, if there is one
--   asked_sweep request                 the request of `sweep`, if there is one
--   IsCommand request command           the request is this command, if there is one, and else nothing
--   AsksForForms forms request          `export` and `sweep` have this number of writers
use Rattle.std.specs.Option.{option_map}
use Rattle.std.specs.Prelude.{ℕ, ℤ, List, Option, [], ◌∷◌, Some, None, if◌then◌else◌, codes, ◌≡◌, ⊤, length}
use Rattle.std.specs.Str.{bytes_eq}
use Rattle.host.specs.State.{Files, Told, State}
use Rattle.ply_head.specs.Optional.{◌>>=◌}
use Rattle.scan_rows.specs.ScanRows.{point_limit}
use Rattle.command_run.specs.Answers.{Answer, MayEnd, Task, bad_arguments_answer, file_limit}
use Rattle.command_run.specs.Outcome.{EndsBy, TellsBy, Run}
use Rattle.command_run.specs.Words.{Names, are_names}
use Rattle.command_run.specs.declared.status.Status.{Status}
use Rattle.command_run.specs.declared.status.Status.TheVariants.{BadArguments, Done, No, Refused, Failed, NoMemory}
use Rattle.recon_cmd.specs.Ask.{QueryNames, ask_names, ask_task}
use Rattle.recon_cmd.specs.Build.{build_names, build_task}
use Rattle.recon_cmd.specs.Cells.{cells_keys, cells_names, cells_task}
use Rattle.recon_cmd.specs.Check.{check_names, output_of, check_task}
use Rattle.recon_cmd.specs.Demo.{seed_of, demo_task}
use Rattle.recon_cmd.specs.Export.{ExportNames, export_names}
use Rattle.recon_cmd.specs.OptionViews.{options_view}
use Rattle.recon_cmd.specs.Options.{Options, number_between}
use Rattle.recon_cmd.specs.Slice.{height_of, slice_names, slice_task}
use Rattle.recon_cmd.specs.Sweep.{SweepAsked, sweep_asked, FitsForms}
use Rattle.recon_cmd.specs.Words.{SurfaceNames, NamesAndOptions, all_keys, named}
use Rattle.recon_cmd.specs.declared.commands.Command.{Command}
use Rattle.recon_cmd.specs.declared.commands.Request.{Request}
use Rattle.recon_cmd.specs.declared.commands.Request.TheVariants as requests
use Rattle.recon_cmd.specs.declared.commands.Command.TheVariants as commands

-- a command with its names and options
pub data Asked : Type 0 where
  cells : Names → Options → Asked
  build : SurfaceNames → Options → Asked
  -- `upgrade` if there is an output file, and `check` if there is none
  check : SurfaceNames → (output : Option (List ℕ)) → Options → Asked
  -- the plane that cuts the mesh is half a unit above this height
  slice : Names → (height : ℤ) → Asked
  ask : QueryNames → Options → Asked
  -- the number of rows, and the seed of their generator
  demo : (count seed : ℕ) → Asked

-- the result of names and options, if there are any
abbrev pub asked_by : (List (List ℕ) → Options → Option Asked) → Option NamesAndOptions → Option Asked
asked_by make words = words >>= λ held. make held.names held.options

-- `cells` with two names and options
abbrev pub cells_of : List (List ℕ) → Options → Option Asked
cells_of (input ∷ output ∷ []) options = Some (cells (record { input = input; output = output }) options)
cells_of names options = None

-- `build` with three names and options
abbrev pub build_of : List (List ℕ) → Options → Option Asked
build_of (input ∷ mesh ∷ cert ∷ []) options = Some (build (record { input = input; mesh = mesh; cert = cert }) options)
build_of names options = None

-- `check` with three names and options
abbrev pub check_of : List (List ℕ) → Options → Option Asked
check_of (input ∷ mesh ∷ cert ∷ []) options = Some (check (record { input = input; mesh = mesh; cert = cert }) None options)
check_of names options = None

-- `upgrade` with four names and options
abbrev pub upgrade_of : List (List ℕ) → Options → Option Asked
upgrade_of (input ∷ mesh ∷ cert ∷ output ∷ []) options =
    Some (check (record { input = input; mesh = mesh; cert = cert }) (Some output) options)
upgrade_of names options = None

-- `ask` with three names and options
abbrev pub ask_of : List (List ℕ) → Options → Option Asked
ask_of (input ∷ points ∷ output ∷ []) options = Some (ask (record { input = input; points = points; output = output }) options)
ask_of names options = None

-- two names, and a height between them
abbrev pub slice_of : List (List ℕ) → Option Asked
slice_of (mesh ∷ height ∷ output ∷ []) =
    if are_names (mesh ∷ output ∷ [])
    then option_map (slice (record { input = mesh; output = output })) (height_of height)
    else None
slice_of words = None

-- a valid number of rows of a scan, and a seed
abbrev pub demo_of : List (List ℕ) → Option Asked
demo_of (count ∷ seed ∷ []) = do
  rows ← number_between 1 point_limit count
  start ← seed_of seed
  Some (demo rows start)
demo_of words = None

-- the command in the arguments, if they are valid
abbrev pub command_of : List (List ℕ) → Option Asked
command_of [] = None
command_of (word ∷ words) =
    if bytes_eq word (codes "cells") then asked_by cells_of (named 2 cells_keys words)
    else (if bytes_eq word (codes "build") then asked_by build_of (named 3 all_keys words)
    else (if bytes_eq word (codes "check") then asked_by check_of (named 3 all_keys words)
    else (if bytes_eq word (codes "upgrade") then asked_by upgrade_of (named 4 all_keys words)
    else (if bytes_eq word (codes "slice") then slice_of words
    else (if bytes_eq word (codes "ask") then asked_by ask_of (named 3 all_keys words)
    else (if bytes_eq word (codes "demo") then demo_of words
    else None))))))

-- the definition of a command of the program
abbrev pub asked : Command → Asked
asked (commands.Cells names options) = cells (cells_names names) (options_view options)
asked (commands.Build names options) = build (build_names names) (options_view options)
asked (commands.Check names options) = check (check_names names) (output_of names) (options_view options)
asked (commands.Slice words) = slice (slice_names words) words.height
asked (commands.Ask names options) = ask (ask_names names) (options_view options)
asked (commands.Demo made) = demo made.count made.seed

-- the command without its arguments
abbrev pub task_of : Asked → Task
task_of (cells names options) = cells_task names options
task_of (build names options) = build_task names options
task_of (check names output options) = check_task names output options
task_of (slice names height) = slice_task names height
task_of (ask names options) = ask_task names options
task_of (demo count seed) = demo_task count seed

-- the answer of a command, or to invalid arguments, for these files and this maximal size of an input file
abbrev pub AnswerWithin : (limit : ℕ) → Option Asked → Files → Answer → Type 0
AnswerWithin limit None = λ files answer. answer ≡ bad_arguments_answer
AnswerWithin limit (Some asked) = (task_of asked).Answers limit

-- the same with the limit of `run`
abbrev pub AnswerOf : Option Asked → Files → Answer → Type 0
AnswerOf = AnswerWithin file_limit

-- the maximal number of files that a command reads
abbrev pub most_reads : Option Asked → ℕ
most_reads None = 0
most_reads (Some asked) = (task_of asked).most

-- the command's answer is carried out, and has this status
abbrev pub EndsWith : Option Asked → Status → Told → Told → Type 0
EndsWith asked = EndsBy (AnswerOf asked)

-- the exposed state after a run of the command that ended with this status
abbrev pub Tells : Option Asked → Status → Told → Told → Type 0
Tells asked = TellsBy (AnswerOf asked)

-- the possible statuses of a command; invalid arguments are rejected, or a call fails
abbrev pub StatusFits : Status → Option Asked → Type 0
StatusFits status (Some asked) = MayEnd (task_of asked) status
StatusFits Done None = ⊥
StatusFits No None = ⊥
StatusFits BadArguments None = ⊤
StatusFits Refused None = ⊥
StatusFits Failed None = ⊤
StatusFits NoMemory None = ⊥

-- the effect of a run of a command, or on invalid arguments, on its host, for this maximal size of an input file
abbrev pub OutcomeWithin : (limit : ℕ) → Option Asked → Status → State → State → Type 0
OutcomeWithin limit asked = Run (λ status. StatusFits status asked) (most_reads asked) (AnswerWithin limit asked)

-- the same with the limit of `run`
abbrev pub Outcome : Option Asked → Status → State → State → Type 0
Outcome = OutcomeWithin file_limit

-- the command, if it is one
abbrev pub asked_command : Option Request → Option Asked
asked_command None = None
asked_command (Some (requests.Command command)) = Some (asked command)
asked_command (Some (requests.Export words)) = None
asked_command (Some (requests.Sweep words)) = None

-- the request of `export`, if there is one
abbrev pub asked_export : Option Request → Option ExportNames
asked_export None = None
asked_export (Some (requests.Command command)) = None
asked_export (Some (requests.Export words)) = Some (export_names words)
asked_export (Some (requests.Sweep words)) = None

-- the request of `sweep`, if there is one
abbrev pub asked_sweep : Option Request → Option SweepAsked
asked_sweep None = None
asked_sweep (Some (requests.Command command)) = None
asked_sweep (Some (requests.Export words)) = None
asked_sweep (Some (requests.Sweep words)) = Some (sweep_asked words)

-- the request is this command, if there is one, and else nothing
abbrev pub IsCommand : Option Request → Option Asked → Type 0
IsCommand request command =
    (asked_command request ≡ command) × (asked_export request ≡ None) × (asked_sweep request ≡ None)

-- `export` and `sweep` have this number of writers
abbrev pub AsksForForms : (forms : ℕ) → Request → Type 0
AsksForForms forms (requests.Command command) = ⊤
AsksForForms forms (requests.Export words) = length words.outputs.now ≡ forms
AsksForForms forms (requests.Sweep words) = FitsForms words forms
