-- The commands of the program.
--
--   Asked                        a command with its names and options
--   finish_of words              what the arguments after `finish` ask for: two names, not empty and not equal, and
--                                options
--   move_of words                what the arguments after `move` ask for: three names, and options of `finish` with smoothing
--   inspect_of words             what the argument after `inspect` asks for: one name that is not empty
--   join_of words                what the arguments after `join` ask for: two names, not empty and not equal
--   confirm_of words             what the arguments after `check` ask for: two names, not empty and not equal
--   command_of words             the command that the arguments ask for, if they are valid
--   asked command                a command as the program holds it
--   task_of asked                what a command is apart from its arguments
--   AnswerOf asked files answer  the answer of a command, or to invalid arguments, where the files are these
--   most_reads asked             how many files a command reads at most
--   StatusFits status asked      the statuses with which a run of a command may end
--   Outcome asked status before after   what a run does to its host, by the answers of a command (`Run`)
use Rattle.std.specs.Option.{option_map}
use Rattle.std.specs.Prelude.{ℕ, List, [], ◌∷◌, if◌then◌else◌, Option, Some, None, codes, ◌≡◌, ⊤}
use Rattle.std.specs.Str.{bytes_eq}
use Rattle.host.specs.State.{Files, State}
use Rattle.command_run.specs.Answers.{Answer, Task, MayEnd, bad_arguments_answer, file_limit}
use Rattle.command_run.specs.Outcome.{Run}
use Rattle.command_run.specs.Words.{Names, are_names}
use Rattle.command_run.specs.declared.status.Status.{Status}
use Rattle.command_run.specs.declared.status.Status.TheVariants.{Done, No, BadArguments, Refused, Failed, NoMemory}
use Rattle.join_cmd.specs.Join.{join_names, join_task}
use Rattle.mesh_cmd.specs.Check.{confirm_names, confirm_task}
use Rattle.mesh_cmd.specs.Finish.{finish_names, finish_task}
use Rattle.mesh_cmd.specs.Inspect.{inspect_task}
use Rattle.mesh_cmd.specs.Moving.{MoveNames, move_names, move_request, move_task}
use Rattle.mesh_cmd.specs.Options.{finish_options}
use Rattle.mesh_cmd.specs.Simplify.{simplify_names, simplify_task}
use Rattle.mesh_cmd.specs.SimplifyRequests.{simplify_request}
use Rattle.mesh_cmd.specs.declared.commands.Command.{Command}
use Rattle.mesh_cmd.specs.declared.commands.Command.TheVariants as commands
use Rattle.mesh_cmd.specs.declared.options.FinishRequest.{FinishRequest}
use Rattle.mesh_cmd.specs.declared.simplify_request.SimplifyRequest.{SimplifyRequest}

-- a command with its names and options
pub data Asked : Type 0 where
  finish : Names → FinishRequest → Asked
  move : MoveNames → FinishRequest → Asked
  simplify : Names → SimplifyRequest → Asked
  join : Names → Asked
  inspect : List ℕ → Asked
  check : Names → Asked

-- two names, and options
abbrev pub finish_of : List (List ℕ) → Option Asked
finish_of [] = None
finish_of (mesh ∷ []) = None
finish_of (mesh ∷ output ∷ options) =
    if are_names (mesh ∷ output ∷ [])
    then option_map (finish (record { input = mesh; output = output })) (finish_options options)
    else None

-- three names, and options
abbrev pub move_of : List (List ℕ) → Option Asked
move_of [] = None
move_of (mesh ∷ []) = None
move_of (mesh ∷ targets ∷ []) = None
move_of (mesh ∷ targets ∷ output ∷ options) =
    if are_names (mesh ∷ targets ∷ output ∷ [])
    then option_map (move (record { mesh = mesh; targets = targets; output = output })) (move_request options)
    else None

-- two names, and options
abbrev pub simplify_of : List (List ℕ) → Option Asked
simplify_of [] = None
simplify_of (mesh ∷ []) = None
simplify_of (mesh ∷ output ∷ options) =
    if are_names (mesh ∷ output ∷ [])
    then option_map (simplify (record { input = mesh; output = output })) (simplify_request options)
    else None

-- two names
abbrev pub join_of : List (List ℕ) → Option Asked
join_of [] = None
join_of (tiles ∷ []) = None
join_of (tiles ∷ output ∷ []) =
    if are_names (tiles ∷ output ∷ []) then Some (join (record { input = tiles; output = output })) else None
join_of (tiles ∷ output ∷ other ∷ words) = None

-- one name
abbrev pub inspect_of : List (List ℕ) → Option Asked
inspect_of [] = None
inspect_of (mesh ∷ []) = if are_names (mesh ∷ []) then Some (inspect mesh) else None
inspect_of (mesh ∷ other ∷ words) = None

-- two names
abbrev pub confirm_of : List (List ℕ) → Option Asked
confirm_of [] = None
confirm_of (mesh ∷ []) = None
confirm_of (mesh ∷ finished ∷ []) =
    if are_names (mesh ∷ finished ∷ []) then Some (check (record { input = mesh; output = finished })) else None
confirm_of (mesh ∷ finished ∷ other ∷ words) = None

-- the command that the arguments ask for, if they are valid
abbrev pub command_of : List (List ℕ) → Option Asked
command_of [] = None
command_of (word ∷ words) =
    if bytes_eq word (codes "finish") then finish_of words
    else if bytes_eq word (codes "move") then move_of words
    else if bytes_eq word (codes "simplify") then simplify_of words
    else if bytes_eq word (codes "join") then join_of words
    else if bytes_eq word (codes "inspect") then inspect_of words
    else if bytes_eq word (codes "check") then confirm_of words
    else None

-- a command as the program holds it
abbrev pub asked : Command → Asked
asked (commands.Finish words) = finish (finish_names words) words.request
asked (commands.Move words) = move (move_names words) words.request
asked (commands.Simplify words) = simplify (simplify_names words) words.request
asked (commands.Join words) = join (join_names words)
asked (commands.Inspect words) = inspect words.mesh.now
asked (commands.Check words) = check (confirm_names words)

-- what a command is apart from its arguments
abbrev pub task_of : Asked → Task
task_of (finish names request) = finish_task names request
task_of (move names request) = move_task names request
task_of (simplify names request) = simplify_task names request
task_of (join names) = join_task names
task_of (inspect name) = inspect_task name
task_of (check names) = confirm_task names

-- the answer of a command, or to invalid arguments, where the files are these
abbrev pub AnswerOf : Option Asked → Files → Answer → Type 0
AnswerOf None files answer = answer ≡ bad_arguments_answer
AnswerOf (Some asked) files answer = (task_of asked).Answers file_limit files answer

-- how many files a command reads at most
abbrev pub most_reads : Option Asked → ℕ
most_reads None = 0
most_reads (Some asked) = (task_of asked).most

-- the statuses that a run of a command may end with; invalid arguments are said to be so, or a call fails
abbrev pub StatusFits : Status → Option Asked → Type 0
StatusFits status (Some asked) = MayEnd (task_of asked) status
StatusFits Done None = ⊥
StatusFits No None = ⊥
StatusFits BadArguments None = ⊤
StatusFits Refused None = ⊥
StatusFits Failed None = ⊤
StatusFits NoMemory None = ⊥

-- what a run of a command, or on invalid arguments, does to its host
abbrev pub Outcome : Option Asked → Status → State → State → Type 0
Outcome asked = Run (λ status. StatusFits status asked) (most_reads asked) (AnswerOf asked)
