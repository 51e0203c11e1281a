-- What `finish` wrote is accepted.
--
-- A run of `finish` that is done has read a mesh and written one that is finished (wrote). That mesh has a text, with its provenance or
-- without (stated_file), so no command rejects its file.
use Rattle.std.proofs.Common.{ℕ, ◌≡◌, ◌≢◌, ◌≤◌, ◌-◌, ◌^◌, ◌⊎◌, ◌∙◌, inl, inr, refl, sym, ap, subst, arith, List, length}
use Rattle.std.proofs.Common.{Bool, true, false, Option, Some, None, IfSome, IsSome, if◌then◌else◌, cond}
use Rattle.std.specs.Str.{bytes_eq}
use Rattle.std.proofs.Math.Pow.{pow_mono}
use Rattle.std.proofs.lemmas.Bool.{false_from_ne_true}
use Rattle.std.proofs.lemmas.Slice.Eq.{bytes_eq-Decides}
use Rattle.geo_sign.specs.Point.{Point}
use Rattle.geo_sign.specs.Numbers.{IsBetween}
use Rattle.host.specs.State.{State, Told, Files, with_file}
use Rattle.sha2.specs.Sha256.{sha256}
use Rattle.mesh.specs.Meshes.{Surface}
use Rattle.mesh_edges.specs.Edges.{IsBalanced}
use Rattle.mesh_smooth.specs.Smoothed.{IsScale}
use Rattle.mesh_smooth.proofs.GridScales.{scale_some}
use Rattle.mesh_provenance.specs.Laws.{IsFile}
use Rattle.mesh_provenance.specs.Texts.{IsProvenance, file_text}
use Rattle.mesh_provenance.specs.declared.provenance.Provenance.{Provenance}
use Rattle.finish_options.specs.declared.options.FinishOptions.{FinishOptions}
use Rattle.finish_options.specs.declared.options.Made.TheVariants as making
use Rattle.finish_options.specs.declared.options.SmoothOptions.{SmoothOptions}
use Rattle.mesh_finish.specs.Steps.{IsSmoothedIf, IsUnverifiedStep}
use Rattle.mesh_finish.specs.declared.options.Step.{Step}
use Rattle.mesh_finish.specs.declared.options.Step.TheVariants.{Pieces, Umbrellas}
use Rattle.command_run.specs.Answers.{Answer, file_limit}
use Rattle.command_run.specs.Outcome.{EndsBy, TellsBy, all_written}
use Rattle.command_run.specs.Words.{Names}
use Rattle.command_run.specs.declared.status.Status.{Status}
use Rattle.command_run.specs.declared.status.Status.TheVariants.{Done, Refused, NoMemory}
use Rattle.mesh_cmd.specs.Check.{ConfirmAnswer, check_answers}
use Rattle.mesh_cmd.specs.Commands.{AnswerOf, check, finish, inspect}
use Rattle.mesh_cmd.specs.Finish.{FinishAnswer, IsNotFinished, WritesFinished, stated_by}
use Rattle.mesh_cmd.specs.Input.{IsUnreadFile, ToInput}
use Rattle.mesh_cmd.specs.Inspect.{IsInspection}
use Rattle.mesh_cmd.specs.declared.input.Role.TheVariants.{First, Finished}
use Rattle.mesh_cmd.specs.declared.options.FinishRequest.{FinishRequest}
use Rattle.mesh_laws.specs.Laws.{Finishes, IsDone, AsksForSteps, FinishedIsConfirmed, FinishedIsInspected, FinishedIsFinished}
use Rattle.mesh_laws.proofs.Digests.{is_digest}
use Rattle.mesh_laws.proofs.Files.{opened, told_after, answered_or_starved, Answered}
use Rattle.mesh_laws.proofs.GivenOptions.{IsGiven, finish_given}
use Rattle.mesh_laws.proofs.Kept.{confirmed, never_unbalanced}

-- ---- what was written
-- `finish` has read a mesh and written a finished one
record HasWritten (names : Names) (request : FinishRequest) (text : List ℕ) (old new : Files) : Type 0 where
  bytes : List ℕ
  within : length bytes ≤ file_limit
  provenance : Option Provenance
  mesh : Surface
  file : IsFile provenance mesh.points mesh.faces
  text_is : bytes ≡ file_text provenance mesh.points mesh.faces
  input : new names.input ≡ Some bytes
  answer : Answer
  writes : WritesFinished names.output request (sha256 bytes) mesh answer
  output : text ≡ file_text (stated_by request (sha256 bytes) writes.fine) writes.finished.points writes.finished.faces

is_itself : (a : List ℕ) → bytes_eq a a ≡ true
is_itself a = grind (arith, bytes_eq-Decides a a)

other_name : (a b : List ℕ) → a ≢ b → bytes_eq a b ≡ false
other_name a b differs = false_from_ne_true (bytes_eq a b) (λ e. differs (grind (arith, bytes_eq-Decides a b)))

-- an answer that is done writes a mesh
refused_not_done : (answer : Answer) → answer.status ≡ Refused → answer.status ≡ Done → ⊥
refused_not_done answer refused done = absurd (cc (refused, done))

unread_refused : (bytes : List ℕ) (answer : Answer) → IsUnreadFile First file_limit bytes answer → answer.status ≡ Refused
unread_refused bytes answer (inl long) = ap (λ (a : Answer). a.status) long.is
unread_refused bytes answer (inr invalid) = ap (λ (a : Answer). a.status) invalid.is

unfinished_refused : (options : FinishOptions) (mesh : Surface) (answer : Answer) → IsNotFinished options mesh answer
    → answer.status ≡ Refused
unfinished_refused options mesh answer (inl edge) = ap (λ (a : Answer). a.status) edge.is
unfinished_refused options mesh answer (inr step) = ap (λ (a : Answer). a.status) step.is

from_answer : (names : Names) (request : FinishRequest) (text : List ℕ) (old new : Files) (answer : Answer)
    → names.input ≢ names.output → answer.status ≡ Done → new ≡ all_written answer.writes old → new names.output ≡ Some text
    → AnswerOf (Some (finish names request)) old answer → HasWritten names request text old new
from_answer names request text old new answer apart done written there (bytes, has, inl unread) =
    absurd (refused_not_done answer (unread_refused bytes answer unread) done)
from_answer names request text old new answer apart done written there (bytes, has, inr found) = by found.answers
  where
    by : FinishAnswer names.output request (sha256 bytes) found.mesh answer → HasWritten names request text old new
    by (inr not) = absurd (refused_not_done answer (unfinished_refused request.options found.mesh answer not) done)
    by (inl writes) =
        let out : List ℕ =
        file_text (stated_by request (sha256 bytes) writes.fine) writes.finished.points writes.finished.faces in
        let files : new ≡ with_file names.output out old = written ∙ ap (λ (a : Answer). all_written a.writes old) writes.is in
        let here : with_file names.output out old names.output ≡ Some out =
        ap (λ (b : Bool). cond b (Some out) (old names.output)) (is_itself names.output) in
        let left : with_file names.output out old names.input ≡ old names.input =
        ap (λ (b : Bool). cond b (Some out) (old names.input)) (other_name names.input names.output apart) in
        record {
          bytes = bytes;
          within = found.within;
          provenance = found.provenance;
          mesh = found.mesh;
          file = found.file;
          text_is = found.text_is;
          input = ap (λ (f : Files). f names.input) files ∙ (left ∙ has);
          answer = answer;
          writes = writes;
          output = cc (there, ap (λ (f : Files). f names.output) files ∙ here);
        }

-- a run that is done has written so
wrote : (names : Names) (request : FinishRequest) (text : List ℕ) (before after : State)
    (f : Finishes names request text before after) → HasWritten names request text f.old.files f.new.files
wrote names request text before after f =
    let there = told_after (TellsBy (AnswerOf (Some (finish names request))) Done) f.old before after f.tells f.outcome.tells in
    let same : there.0 ≡ f.new = cc (there.1, f.told) in
    ended (subst (λ (told : Told). EndsBy (AnswerOf (Some (finish names request))) Done f.old told) same there.2)
  where
    ended : EndsBy (AnswerOf (Some (finish names request))) Done f.old f.new → HasWritten names request text f.old.files f.new.files
    ended ends =
        from_answer names request text f.old.files f.new.files ends.answer (finish_given f.words names request f.asks).apart
        ends.status_is ends.carried_out.files f.file ends.answers

-- ---- its text
scale_within : (n : ℕ) → n ≤ 10 → 2 ^ n ≤ 2 ^ 10
scale_within n few = pow_mono few

scale_between : (fine : ℕ) → IsScale fine → IsBetween 1 (2 ^ 32 - 1) fine
scale_between fine is =
    (scale_some fine is, high is)
  where
    high : IsScale fine → fine ≤ 2 ^ 32 - 1
    high (n, few, same) = omega (arith, same, scale_within n few)

fine_between : (smoothing : Option SmoothOptions) (points : List Point) (faces : List (List ℕ)) (new : List Point)
    (new_faces : List (List ℕ)) (fine : ℕ) → IsSmoothedIf smoothing points faces new new_faces fine → IsBetween 1 (2 ^ 32 - 1) fine
fine_between None points faces new new_faces fine (same, still, scale) = (omega (arith, scale), omega (arith, scale))
fine_between (Some s) points faces new new_faces fine is = scale_between fine is.smoothed.scale.scale

stated_file : (names : Names) (request : FinishRequest) (text : List ℕ) (old new : Files) → IsGiven names request
    → (w : HasWritten names request text old new)
    → IsFile (stated_by request (sha256 w.bytes) w.writes.fine) w.writes.finished.points w.writes.finished.faces
stated_file names request text old new given w = (by_cases request.comments, w.writes.printed)
  where
    provenance : Provenance
    provenance = record { made = making.Finish request.options; fine = w.writes.fine; digest = sha256 w.bytes }

    by_cases : (b : Bool) → IfSome (if b then Some provenance else None) IsProvenance
    by_cases false = tt
    by_cases true =
        record {
          made = given.options;
          fine =
              fine_between request.options.smoothing w.writes.so.made.split_points w.writes.so.made.flipped_faces
              w.writes.finished.points w.writes.finished.faces w.writes.fine w.writes.so.made.smooth;
          digest = is_digest w.bytes;
        }

-- ---- the commands after it
-- a run whose answers all have the status done
all_done : (status : Status) → (A : Files → Answer → Type 0) (files : Files)
    → ((answer : Answer) → A files answer → answer.status ≡ Done) → Answered A files status ⊎ (status ≡ NoMemory) → IsDone status
all_done status A files each (inl (answer, answers, same)) = inl (sym same ∙ each answer answers)
all_done status A files each (inr starved) = inr starved

check_done : (names : Names) (request : FinishRequest) (text : List ℕ) (old new : Files) → IsGiven names request
    → HasWritten names request text old new → new names.output ≡ Some text → request.comments ≡ true → length text ≤ file_limit
    → (answer : Answer) → AnswerOf (Some (check names)) new answer → answer.status ≡ Done
check_done names request text old new given w there asked within answer answers =
    let digest : List ℕ = sha256 w.bytes in
    let out : Surface = w.writes.finished in
    let second : ToInput Finished file_limit names.output (check_answers digest w.mesh) new answer =
    opened First file_limit names.input
    (λ bytes _ mesh. ToInput Finished file_limit names.output (check_answers (sha256 bytes) mesh) new) new w.bytes answer
    w.provenance w.mesh w.input w.within w.file w.text_is answers in
    let third : ConfirmAnswer digest w.mesh (stated_by request digest w.writes.fine) out answer =
    opened Finished file_limit names.output (check_answers digest w.mesh) new text answer
    (stated_by request digest w.writes.fine) out there within (stated_file names request text old new given w) w.output second in
    let p : Provenance = record { made = making.Finish request.options; fine = w.writes.fine; digest = digest } in
    let stated : stated_by request digest w.writes.fine ≡ Some p = ap (λ (b : Bool). if b then Some p else None) asked in
    confirmed digest request.options w.writes.fine w.mesh out answer w.writes.so
    (subst (λ (found : Option Provenance). ConfirmAnswer digest w.mesh found out answer) stated third)

pub finished_is_confirmed : FinishedIsConfirmed
finished_is_confirmed = λ names request text status before between after f asked within runs.
    all_done status (AnswerOf (Some (check names))) f.new.files
    (check_done names request text f.old.files f.new.files (finish_given f.words names request f.asks)
    (wrote names request text before between f) f.file asked within)
    (answered_or_starved _ _ (AnswerOf (Some (check names))) status between after f.new f.told runs.no_failure runs.outcome)

inspect_done : (names : Names) (request : FinishRequest) (text : List ℕ) (old new : Files) → IsGiven names request
    → HasWritten names request text old new → new names.output ≡ Some text → length text ≤ file_limit
    → (answer : Answer) → AnswerOf (Some (inspect names.output)) new answer → answer.status ≡ Done
inspect_done names request text old new given w there within answer answers =
    let inspected : IsInspection w.writes.finished answer =
    opened First file_limit names.output (λ bytes provenance mesh. IsInspection mesh) new text answer
    (stated_by request (sha256 w.bytes) w.writes.fine) w.writes.finished there within
    (stated_file names request text old new given w) w.output answers in
    ap (λ (a : Answer). a.status) inspected.is

pub finished_is_inspected : FinishedIsInspected
finished_is_inspected = λ names request text status before between after f within runs.
    all_done status (AnswerOf (Some (inspect names.output))) f.new.files
    (inspect_done names request text f.old.files f.new.files (finish_given f.words names request f.asks)
    (wrote names request text before between f) f.file within)
    (answered_or_starved _ _ (AnswerOf (Some (inspect names.output))) status between after f.new f.told runs.no_failure runs.outcome)

-- a second `finish` writes a mesh, or rejects it for a step
abbrev IsAgain : FinishOptions → Status → Type 0
IsAgain options status = (status ≡ Done) ⊎ ((status ≡ Refused) × AsksForSteps options)

step_asked : (options : FinishOptions) (points : List Point) (faces : List (List ℕ)) (step : Step)
    → IsUnverifiedStep options points faces step → AsksForSteps options
step_asked options points faces Pieces (most, is) = inl (subst IsSome (sym is) refl)
step_asked options points faces Umbrellas (asked, made) = inr asked

again_ends : (output : List ℕ) (again : FinishRequest) (digest : List ℕ) (mesh : Surface) (answer : Answer)
    → IsBalanced mesh.faces → FinishAnswer output again digest mesh answer
    → IsAgain again.options answer.status
again_ends output again digest mesh answer closed (inl writes) = inl (ap (λ (a : Answer). a.status) writes.is)
again_ends output again digest mesh answer closed (inr (inl edge)) =
    absurd (never_unbalanced mesh.faces edge.from edge.to edge.there edge.back closed edge.first)
again_ends output again digest mesh answer closed (inr (inr step)) =
    inr (ap (λ (a : Answer). a.status) step.is, step_asked again.options mesh.points mesh.faces step.step step.why)

finish_ends : (names : Names) (request again : FinishRequest) (output text : List ℕ) (old new : Files) → IsGiven names request
    → HasWritten names request text old new → new names.output ≡ Some text → length text ≤ file_limit → (answer : Answer)
    → AnswerOf (Some (finish (record { input = names.output; output = output }) again)) new answer → IsAgain again.options answer.status
finish_ends names request again output text old new given w there within answer answers =
    again_ends output again (sha256 text) w.writes.finished answer w.writes.so.made.closed
    (opened First file_limit names.output (λ bytes provenance mesh. FinishAnswer output again (sha256 bytes) mesh) new text answer
    (stated_by request (sha256 w.bytes) w.writes.fine) w.writes.finished there within
    (stated_file names request text old new given w) w.output answers)

pub finished_is_finished : FinishedIsFinished
finished_is_finished = λ names request again output text status before between after f within runs.
    by names request again output text status f.old.files f.new.files (finish_given f.words names request f.asks)
    (wrote names request text before between f) f.file within
    (answered_or_starved _ _ (AnswerOf (Some (finish (record { input = names.output; output = output }) again))) status between after
    f.new f.told runs.no_failure runs.outcome)
  where
    ended : (options : FinishOptions) (status : Status) → IsAgain options status
        → IsDone status ⊎ ((status ≡ Refused) × AsksForSteps options)
    ended options status (inl done) = inl (inl done)
    ended options status (inr refused) = inr refused

    by : (names : Names) (request again : FinishRequest) (output text : List ℕ) (status : Status) (old new : Files)
        → IsGiven names request → HasWritten names request text old new → new names.output ≡ Some text → length text ≤ file_limit
        → Answered (AnswerOf (Some (finish (record { input = names.output; output = output }) again))) new status
        ⊎ (status ≡ NoMemory)
        → IsDone status ⊎ ((status ≡ Refused) × AsksForSteps again.options)
    by names request again output text status old new given w there within (inr starved) = inl (inr starved)
    by names request again output text status old new given w there within (inl (answer, answers, same)) =
        ended again.options status
        (subst (IsAgain again.options) same
        (finish_ends names request again output text old new given w there within answer answers))
