-- Forms of three types write PLY, OFF and OBJ: by type, in their order.
use Rattle.std.proofs.Common.{◌≡◌, ◌⊎◌, inl, inr, ℕ, ◌+◌, ◌≤◌, List, [], ◌∷◌, ◌++◌, length, map, Option, Some, None, IfSome}
use Rattle.std.proofs.Common.{refl, sym, ap, subst, ◌∙◌, arith, unwrap_or}
use Rattle.std.specs.List.{zip}
use Rattle.std.specs.Option.{IsSomeAnd}
use Rattle.host.specs.State.{State, Told, Files}
use Rattle.mesh_form.specs.Received.{Received}
use Rattle.mesh_form.specs.Texts.{off_text, obj_text}
use Rattle.mesh.specs.Meshes.{Surface}
use Rattle.mesh_ply.specs.Texts.{mesh_text}
use Rattle.command_run.specs.Answers.{Answer, file_limit}
use Rattle.command_run.specs.Outcome.{EndsBy, IsUntouched, Run, StopsBy, TellsBy}
use Rattle.command_run.specs.Status.{ExitsWith, code_of}
use Rattle.command_run.specs.declared.status.Status.{Status}
use Rattle.command_run.specs.declared.status.Status.TheVariants.{Done, No, BadArguments, Refused, Failed, NoMemory}
use Rattle.command_run.proofs.MeshReplies.{unread_reads}
use Rattle.recon_cmd.specs.Answers.{MayRefuse}
use Rattle.recon_cmd.specs.Export.{ExportAnswer, ExportNames, ExportOutcome, HaveAll, WritesForms, export_of, exported_line}
use Rattle.recon_cmd.specs.Commands.{Outcome, command_of}
use Rattle.recon_cmd.specs.Sweep.{SweepAsked, entries_of, sweep_of}
use Rattle.recon_cmd.proofs.SweepWordLemmas.{no_sweep}
use Rattle.recon_main.specs.Ends.{FormatsAnswer, RunsFor, RunsOn, WritesFormats, sweep_in}

-- the first of three forms has the mesh text of what it has received, the second OFF, the third OBJ
pub record AreFormats (forms : List Received) (texts : List (List ℕ)) : Type 0 where
  pub ply : Received
  pub off : Received
  pub obj : Received
  pub forms_are : forms ≡ ply ∷ off ∷ obj ∷ []
  pub texts_are : texts ≡ mesh_text ply.points ply.faces ∷ off_text off.points off.faces ∷ obj_text obj.points obj.faces ∷ []

-- by the types of the three boxes
pub by_kinds : {V B : Type 0} (kind : B → V) (received : B → Received) (text : B → List ℕ) (u v w : V) (boxes : List B)
    → map kind boxes ≡ u ∷ v ∷ w ∷ []
    → ((b : B) → kind b ≡ u → text b ≡ mesh_text (received b).points (received b).faces)
    → ((b : B) → kind b ≡ v → text b ≡ off_text (received b).points (received b).faces)
    → ((b : B) → kind b ≡ w → text b ≡ obj_text (received b).points (received b).faces)
    → AreFormats (map received boxes) (map text boxes)
by_kinds kind received text u v w [] e ply off obj = cc
by_kinds kind received text u v w (a ∷ []) e ply off obj = cc
by_kinds kind received text u v w (a ∷ b ∷ []) e ply off obj = cc
by_kinds kind received text u v w (a ∷ b ∷ c ∷ d ∷ boxes) e ply off obj = cc
by_kinds kind received text u v w (a ∷ b ∷ c ∷ []) e ply off obj =
    let first = ply a cc in
    let second = off b cc in
    let third = obj c cc in
    record { ply = received a; off = received b; obj = received c; forms_are = refl; texts_are = cc (first, second, third) }

-- ---- the answers
written : (outputs : List (List ℕ)) (forms : List Received) (texts : List (List ℕ)) (mesh : Surface) (answer : Answer)
    → AreFormats forms texts → WritesForms outputs forms texts mesh answer → WritesFormats outputs mesh answer
written outputs forms texts mesh answer are writes =
    let each : HaveAll mesh (are.ply ∷ are.off ∷ are.obj ∷ []) =
    subst (λ (l : List Received). HaveAll mesh l) are.forms_are writes.each in
    let ply = each 0 are.ply (omega arith) in
    let off = each 1 are.off (omega arith) in
    let obj = each 2 are.obj (omega arith) in
    let same : texts
    ≡ mesh_text mesh.points mesh.faces ∷ off_text mesh.points mesh.faces ∷ obj_text mesh.points mesh.faces ∷ [] =
    cc (are.texts_are, ply.all_points, ply.all_faces, off.all_points, off.all_faces, obj.all_points, obj.all_faces) in
    writes.is
    ∙ ap (λ (t : List (List ℕ)). record {
      status = Done;
      reads = 1;
      writes = zip outputs t;
      line = exported_line (length outputs) (length mesh.points) (length mesh.faces);
    }) same

formats_answer : (names : ExportNames) (forms : List Received) (texts : List (List ℕ)) → AreFormats forms texts
    → (files : Files) (answer : Answer) → ExportAnswer file_limit names forms texts files answer → FormatsAnswer names files answer
formats_answer names forms texts are files answer (bytes, has, inl unread) = (bytes, has, inl unread)
formats_answer names forms texts are files answer (bytes, has, inr answered) = (
  bytes,
  has,
  inr (record {
    within = answered.within;
    mesh = answered.mesh;
    printed = answered.printed;
    text_is = answered.text_is;
    answers = written names.outputs forms texts answered.mesh answer are answered.answers;
  }),
)

formats_reads : (names : ExportNames) (files : Files) (answer : Answer) → FormatsAnswer names files answer → answer.reads ≡ 1
formats_reads names files answer (bytes, has, inl unread) = unread_reads file_limit bytes answer unread
formats_reads names files answer (bytes, has, inr answered) = ap (λ (a : Answer). a.reads) answered.answers

-- ---- a run with these answers has others that they are among
module _ (A B : Files → Answer → Type 0) (each : (files : Files) (answer : Answer) → A files answer → B files answer) where
  ends_among : (status : Status) (old new : Told) → EndsBy A status old new → EndsBy B status old new
  ends_among status old new ends = record {
    answer = ends.answer;
    answers = each old.files ends.answer ends.answers;
    status_is = ends.status_is;
    carried_out = ends.carried_out;
  }

  stops_among : (old new : Told) → IsUntouched old new ⊎ StopsBy A old new → IsUntouched old new ⊎ StopsBy B old new
  stops_among old new (inl same) = inl same
  stops_among old new (inr stops) =
      inr (record { answer = stops.answer; answers = each old.files stops.answer stops.answers; stopped = stops.stopped })

  tells_among : (status : Status) (old new : Told) → TellsBy A status old new → TellsBy B status old new
  tells_among Done old new tells = ends_among Done old new tells
  tells_among No old new tells = ends_among No old new tells
  tells_among BadArguments old new tells = ends_among BadArguments old new tells
  tells_among Refused old new tells = ends_among Refused old new tells
  tells_among Failed old new tells = stops_among old new tells
  tells_among NoMemory old new tells = tells

  told_among : (status : Status) (before after : Option Told)
      → IfSome before (λ old. IsSomeAnd after (λ new. TellsBy A status old new))
      → IfSome before (λ old. IsSomeAnd after (λ new. TellsBy B status old new))
  told_among status None after tells = tt
  told_among status (Some old) None tells = tells
  told_among status (Some old) (Some new) tells = tells_among status old new tells

  pub run_among : ((files : Files) (answer : Answer) → B files answer → answer.reads ≡ 1) → (status : Status) (before after : State)
      → Run MayRefuse 1 A status before after → Run MayRefuse 1 B status before after
  run_among one status before after run =
      record {
        fits = run.fits;
        faults = run.faults;
        opens = run.opens;
        writing = run.writing;
        tells = told_among status before.told after.told run.tells;
        reads = by_cases before.told;
      }
    where
      by_cases : (o : Option Told)
          → IfSome o (λ old. (answer : Answer) → B old.files answer → after.opens ≤ before.opens + answer.reads)
      by_cases None = tt
      by_cases (Some old) = λ answer is. omega (arith, run.opens, one old.files answer is)

-- ---- the whole run
pub ran_on : {X : Type 0} (words : List (List ℕ)) (n : ℕ) → n ≡ 3
    → (code : ℕ) (before after : State) (old new : List Received) (texts : List (List ℕ)) → AreFormats new texts
    → entries_of words ≡ None
    → IfSome (export_of n words)
    (λ names. ExitsWith code (λ status. ExportOutcome file_limit names status before after old new texts))
    → (export_of n words ≡ None → sweep_of n words ≡ None
    → (status : Status) × (code ≡ code_of status) × Outcome (command_of words) status before after × X)
    → RunsOn words code before after
ran_on {X} words n three code before after old new texts are others exported ran =
    subst (λ (k : ℕ). ExitsWith code (λ status. RunsFor (export_of k words) (sweep_in words) words status before after)) three
    (subst (λ (o : Option SweepAsked). ExitsWith code (λ status. RunsFor (export_of n words) o words status before after))
    (sym (no_sweep words (unwrap_or (entries_of words) 0) others))
    (by (export_of n words) exported (λ e. ran e (no_sweep words n others))))
  where
    by : (o : Option ExportNames)
        → IfSome o (λ names. ExitsWith code (λ status. ExportOutcome file_limit names status before after old new texts))
        → (o ≡ None → (status : Status) × (code ≡ code_of status) × Outcome (command_of words) status before after × X)
        → ExitsWith code (λ status. RunsFor o None words status before after)
    by None exported ran = let found = ran refl in (found.0, found.1, found.2)
    by (Some names) (status, is, outcome) ran = (
      status,
      is,
      run_among (ExportAnswer file_limit names new texts) (FormatsAnswer names) (formats_answer names new texts are)
          (formats_reads names)
          status before after outcome.run,
    )

-- ---- the three boxes
pub three_pushed : {B : Type 0} (none one two three now : List B) (a b d : B) → none ≡ [] → one ≡ none ++ a ∷ []
    → two ≡ one ++ b ∷ [] → three ≡ two ++ d ∷ [] → now ≡ three → now ≡ a ∷ b ∷ d ∷ []
three_pushed none one two three now a b d e0 e1 e2 e3 is =
    is ∙ (e3
    ∙ ap (λ (l : List _). l ++ d ∷ []) (e2 ∙ ap (λ (l : List _). l ++ b ∷ []) (e1 ∙ ap (λ (l : List _). l ++ a ∷ []) e0)))

-- what holds of each value of one type holds of a value whose type is that one
pub at_kind : {I : Type 0} {F : I → Type 0} (P : (i : I) → F i → Type 0) (u w : I) → w ≡ u → ((x : F u) → P u x)
    → (i : I) (x : F i) → i ≡ w → P i x
at_kind {I} {F} P u w e base i x is = subst (λ (j : I). (y : F j) → P j y) (sym (is ∙ e)) base x
