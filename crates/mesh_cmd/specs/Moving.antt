-- `move MESH TARGETS OUT`: a mesh as `finish` makes it, whose vertices move toward targets. What the targets are decides nothing that is
-- stated of the result, but their number.
--
--   MoveNames                           the names of the mesh, the targets and the output
--   move_names words                    those that the program holds
--   if_smoothed smoothing request, move_request words   the options that the arguments after the names are: those of `finish`, if vertices are to move
--   miscounted_line targets points      the line for another number of targets than there are points
--   after_two answer                    the answer after a second file was read
--   WritesMoved output request ..       the answer writes what `finish` may make of the mesh, with as many points as there are targets
--   IsMiscounted request mesh targets answer   another number of points is left, which the answer states
--   IsNotMoved request mesh answer      no mesh is made, for a reason of `finish`
--   MoveAnswer output request ..        one of the three
--   move_answers output request         the same for any bytes of the targets
--   TargetsAnswer limit names ..        the answers to the file of targets
--   move_task names request             the command `move`
use Rattle.std.specs.Prelude.{ℕ, List, ◌∷◌, [], ◌++◌, codes, ◌≡◌, ◌≢◌, ◌⊎◌, length, Option, None, Some}
use Rattle.std.specs.Option.{option_and_then}
use Rattle.host.specs.State.{Files}
use Rattle.mesh.specs.Meshes.{Surface}
use Rattle.mesh_ply.specs.Texts.{IsPrinted}
use Rattle.mesh_finish.specs.Steps.{AreFinished}
use Rattle.finish_options.specs.declared.options.SmoothOptions.{SmoothOptions}
use Rattle.command_run.specs.Answers.{Answer, Task, invalid}
use Rattle.command_run.specs.Lines.{labelled}
use Rattle.mesh_cmd.specs.Finish.{IsNotFinished, finish_done}
use Rattle.mesh_cmd.specs.Input.{Second, ToInput, pair_task}
use Rattle.mesh_cmd.specs.Options.{finish_options}
use Rattle.mesh_cmd.specs.declared.commands.moving.MoveWords.{MoveWords}
use Rattle.mesh_cmd.specs.declared.input.Role.TheVariants.{Targets}
use Rattle.mesh_cmd.specs.declared.options.FinishRequest.{FinishRequest}

-- the names of the mesh, the targets and the output
pub record MoveNames : Type 0 where
  pub mesh : List ℕ
  pub targets : List ℕ
  pub output : List ℕ

-- the names that the program holds
abbrev pub move_names : MoveWords → MoveNames
move_names words = record { mesh = words.mesh.now; targets = words.targets.now; output = words.output.now }

-- the request, if vertices are to move
abbrev pub if_smoothed : Option SmoothOptions → FinishRequest → Option FinishRequest
if_smoothed None request = None
if_smoothed (Some smoothing) request = Some request

-- the options that the arguments after the names are
abbrev pub move_request : List (List ℕ) → Option FinishRequest
move_request words = option_and_then (λ request. if_smoothed request.options.smoothing request) (finish_options words)

-- `refused 36 targets_count targets T points P`
unfoldable pub miscounted_line : (targets points : ℕ) → List ℕ
miscounted_line targets points =
    labelled (codes "refused 36 targets_count targets ") targets ++ (labelled (codes " points ") points ++ (10 ∷ []))

-- the answer after a second file was read
abbrev pub after_two : Answer → Answer
after_two answer = record answer { reads = 2 }

-- What is written is as `finish` with these options may make it of the mesh, and has as many points as there are targets.
pub record WritesMoved (output : List ℕ) (request : FinishRequest) (digest : List ℕ) (mesh targets : Surface) (answer : Answer) : Type 0
  where
    pub moved : Surface
    pub fine : ℕ
    pub printed : IsPrinted moved.points moved.faces
    pub so : AreFinished request.options mesh.points mesh.faces moved.points moved.faces fine
    pub count : length moved.points ≡ length targets.points
    pub is : answer ≡ after_two (finish_done output request digest moved fine)

-- what `finish` makes of the mesh has another number of points
pub record IsMiscounted (request : FinishRequest) (mesh targets : Surface) (answer : Answer) : Type 0 where
  pub moved : Surface
  pub fine : ℕ
  pub so : AreFinished request.options mesh.points mesh.faces moved.points moved.faces fine
  pub other : length moved.points ≢ length targets.points
  pub is : answer ≡ invalid 2 (miscounted_line (length targets.points) (length moved.points))

-- no mesh is made, for a reason of `finish`
abbrev pub IsNotMoved : FinishRequest → Surface → Answer → Type 0
IsNotMoved request mesh answer = (one : Answer) × IsNotFinished request.options mesh one × (answer ≡ after_two one)

-- a mesh is written, or it is said why not
abbrev pub MoveAnswer : (output : List ℕ) → FinishRequest → (digest : List ℕ) → (mesh targets : Surface) → Answer → Type 0
MoveAnswer output request digest mesh targets answer =
    WritesMoved output request digest mesh targets answer ⊎ IsMiscounted request mesh targets answer ⊎ IsNotMoved request mesh answer

-- the answers to two meshes
abbrev pub move_answers : (output : List ℕ) → FinishRequest → Second
move_answers output request digest mesh bytes p targets = MoveAnswer output request digest mesh targets

-- the answers to the file of targets, after a mesh whose file has this digest
abbrev pub TargetsAnswer : (limit : ℕ) → MoveNames → FinishRequest → (digest : List ℕ) → Surface → Files → Answer → Type 0
TargetsAnswer limit names request digest mesh = ToInput Targets limit names.targets (move_answers names.output request digest mesh)

-- it reads the mesh, then the targets if the mesh is valid, and writes the result
abbrev pub move_task : MoveNames → FinishRequest → Task
move_task names request =
    pair_task ⊥ Targets names.mesh names.targets (move_answers names.output request)
