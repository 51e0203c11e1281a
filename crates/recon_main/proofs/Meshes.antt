-- Forms that are all of one type write the surfaces of a sweep as PLY.
use Rattle.std.proofs.Common.{◌≡◌, ℕ, ◌-◌, ◌<◌, List, [], ◌∷◌, length, map, get_or, All, Option, Some, None, IfSome, refl, sym, ap, ◌++◌}
use Rattle.std.proofs.Common.{subst, suc, ◌∙◌, arith, inl, inr, unwrap_or}
use Rattle.std.specs.List.{zip}
use Rattle.std.proofs.lemmas.List.{get_or-map, length-map}
use Rattle.std.proofs.lemmas.List.Elements.{All-append, All-cons, All-nil}
use Rattle.std.proofs.lemmas.Simd.{map-map}
use Rattle.host.specs.State.{State, Files}
use Rattle.geo_sign.specs.Point.{Point}
use Rattle.mesh_form.specs.Received.{Received, IsFresh, fresh}
use Rattle.mesh.specs.Meshes.{Surface}
use Rattle.mesh_ply.specs.Texts.{mesh_text}
use Rattle.scan_rows.specs.Shown.{Shown}
use Rattle.sweep.specs.Entries.{HasEntry, IsSurfaceAt, given_by, smoothing_of}
use Rattle.command_run.specs.Answers.{Answer, file_limit}
use Rattle.command_run.specs.Status.{ExitsWith, code_of}
use Rattle.command_run.specs.declared.status.Status.{Status}
use Rattle.command_run.specs.declared.status.Status.TheVariants.{Done}
use Rattle.recon_cmd.specs.Answers.{scan_within}
use Rattle.recon_cmd.specs.Export.{export_of}
use Rattle.recon_cmd.specs.Commands.{Outcome, command_of}
use Rattle.recon_cmd.specs.Sweep.{SweepAnswer, SweepAsked, SweepOutcome, WritesSweep, entries_of, sweep_line, sweep_of}
use Rattle.recon_cmd.proofs.FileAnswers.{file_cases, file_map}
use Rattle.recon_cmd.proofs.SweepWordLemmas.{no_export}
use Rattle.recon_main.specs.Ends.{MeshesAnswer, RunsFor, RunsOn, WritesMeshes, sweep_in}
use Rattle.recon_main.proofs.Formats.{run_among}

-- what a form has received, as a mesh
abbrev mesh_in : Received → Surface
mesh_in r = record { points = r.points; faces = r.faces }

-- its text as PLY
abbrev pub ply_of : Received → List ℕ
ply_of r = mesh_text r.points r.faces

-- ---- boxes of forms that write PLY
-- all boxes of this type have the text of what they have received as PLY
abbrev pub IsPlyKind : {V B : Type 0} → (kind : B → V) → (received : B → Received) → (text : B → List ℕ) → V → Type 0
IsPlyKind {V} {B} kind received text v = (b : B) → kind b ≡ v → text b ≡ ply_of (received b)

-- a fresh form of such a type
pub record IsFreshPly {V B : Type 0} (kind : B → V) (received : B → Received) (text : B → List ℕ) (b : B) : Type 0 where
  pub is_fresh : IsFresh (received b)
  pub of_kind : IsPlyKind kind received text (kind b)

-- what is as it was made is fresh
pub fresh_made : (r : Received) → r ≡ fresh → IsFresh r
fresh_made r is = subst IsFresh (sym is) (record { stage = refl; no_points = refl; no_faces = refl })

-- one more
pub ply_more : {V B : Type 0} (kind : B → V) (received : B → Received) (text : B → List ℕ) (boxes now : List B) (b : B)
    → now ≡ boxes ++ b ∷ [] → All (IsFreshPly kind received text) boxes → IsFreshPly kind received text b
    → All (IsFreshPly kind received text) now
ply_more kind received text boxes now b is each more =
    subst (All (IsFreshPly kind received text)) (sym is)
    (All-append (IsFreshPly kind received text) boxes (b ∷ []) each (All-cons (IsFreshPly kind received text) b [] more
    (All-nil (IsFreshPly kind received text))))

-- none yet
pub ply_none : {V B : Type 0} (kind : B → V) (received : B → Received) (text : B → List ℕ) (now : List B) → now ≡ []
    → All (IsFreshPly kind received text) now
ply_none kind received text now is =
    subst (All (IsFreshPly kind received text)) (sym is) (All-nil (IsFreshPly kind received text))

-- all are fresh
pub ply_fresh : {V B : Type 0} (kind : B → V) (received : B → Received) (text : B → List ℕ) (boxes now : List B) → now ≡ boxes
    → All (IsFreshPly kind received text) boxes → All IsFresh (map received now)
ply_fresh {V} {B} kind received text boxes now same each =
    subst (λ (list : List B). All IsFresh (map received list)) (sym same) (by boxes each)
  where
    by : (list : List B) → All (IsFreshPly kind received text) list → All IsFresh (map received list)
    by [] each = All-nil IsFresh
    by (b ∷ list) each =
        All-cons IsFresh (received b) (map received list) (each 0 b (omega arith)).is_fresh
        (by list (λ k d l. each (suc k) d (omega arith)))

-- as many boxes of the same types have their texts as PLY
ply_texts : {V B : Type 0} (kind : B → V) (received : B → Received) (text : B → List ℕ) (old new : List B)
    → map kind new ≡ map kind old → All (IsFreshPly kind received text) old → map text new ≡ map ply_of (map received new)
ply_texts kind received text [] [] same each = refl
ply_texts kind received text [] (b ∷ new) same each = cc
ply_texts kind received text (a ∷ old) [] same each = cc
ply_texts kind received text (a ∷ old) (b ∷ new) same each =
    let first : text b ≡ ply_of (received b) = (each 0 a (omega arith)).of_kind b cc in
    let kinds : map kind new ≡ map kind old = cc in
    let rest = ply_texts kind received text old new kinds (λ k d l. each (suc k) d (omega arith)) in
    cc (first, rest)

-- the same of boxes that were handed in
pub ply_written : {V B : Type 0} (kind : B → V) (received : B → Received) (text : B → List ℕ) (boxes old new : List B)
    → old ≡ boxes → map kind new ≡ map kind old → All (IsFreshPly kind received text) boxes
    → map text new ≡ map ply_of (map received new)
ply_written kind received text boxes old new same kinds each =
    ply_texts kind received text boxes new (kinds ∙ ap (map kind) same) each

-- ---- the answers
written : (asked : SweepAsked) (forms : List Received) (texts : List (List ℕ)) (scan : Shown) (answer : Answer)
    → texts ≡ map ply_of forms → WritesSweep asked forms texts scan answer → WritesMeshes asked scan answer
written asked forms texts scan answer are writes = record {
  meshes = map mesh_in forms;
  count = length-map forms mesh_in ∙ writes.entries.count;
  each = λ k d l. (let within : k < length forms = omega (arith, l, length-map forms mesh_in) in
      at_surface k (get_or forms k none) d (get_or-map mesh_in forms k none d within)
      (writes.entries.each k none within));
  first = writes.first;
  last = writes.last;
  first_is = writes.entries.first_is;
  last_is = writes.entries.last_is;
  is = writes.is
      ∙ ap (λ (t : List (List ℕ)). record {
        status = Done;
        reads = 1;
        writes = zip asked.outputs t;
        line = sweep_line (length asked.outputs) writes.first writes.last;
      }) (are ∙ sym (map-map (λ (mesh : Surface). mesh_text mesh.points mesh.faces) mesh_in forms));
}
  where
    none : Received
    none = fresh

    at_surface : (k : ℕ) (r : Received) (d : Surface) → get_or (map mesh_in forms) k d ≡ mesh_in r
        → HasEntry (given_by scan) asked.options.vote (smoothing_of asked.options.smooth asked.step k) r
        → IsSurfaceAt (given_by scan) asked.options.vote (smoothing_of asked.options.smooth asked.step k)
        (get_or (map mesh_in forms) k d)
    at_surface k r d is entry =
        subst (IsSurfaceAt (given_by scan) asked.options.vote (smoothing_of asked.options.smooth asked.step k))
        (sym (is ∙ (ap (λ (ps : List Point). surface ps r.faces) entry.all.all_points
        ∙ ap (λ (fs : List (List ℕ)). surface entry.mesh.points fs) entry.all.all_faces))) entry.surface
      where
        surface : List Point → List (List ℕ) → Surface
        surface points faces = record { points = points; faces = faces }

meshes_answer : (asked : SweepAsked) (forms : List Received) (texts : List (List ℕ)) → texts ≡ map ply_of forms
    → (files : Files) (answer : Answer) → SweepAnswer file_limit asked forms texts files answer → MeshesAnswer asked files answer
meshes_answer asked forms texts are files answer =
    file_map 1 asked.input (scan_within file_limit asked.options) (λ _. WritesSweep asked forms texts) (λ _. WritesMeshes asked) files
    answer (λ bytes scan. written asked forms texts scan answer are)

meshes_reads : (asked : SweepAsked) (files : Files) (answer : Answer) → MeshesAnswer asked files answer → answer.reads ≡ 1
meshes_reads asked files answer =
    file_cases 1 asked.input (scan_within file_limit asked.options) (λ _. WritesMeshes asked) files answer (answer.reads ≡ 1)
    (λ bytes line has so is. ap (λ (a : Answer). a.reads) is) (λ bytes scan has so writes. ap (λ (a : Answer). a.reads) writes.is)

-- ---- the whole run
pub swept_on : {X : Type 0} (words : List (List ℕ)) (n m : ℕ) → entries_of words ≡ Some m → n ≡ m
    → (code : ℕ) (before after : State) (old new : List Received) (texts : List (List ℕ)) → texts ≡ map ply_of new
    → IfSome (sweep_of n words)
    (λ asked. ExitsWith code (λ status. SweepOutcome file_limit asked status before after old new texts))
    → (export_of n words ≡ None → sweep_of n words ≡ None
    → (status : Status) × (code ≡ code_of status) × Outcome (command_of words) status before after × X)
    → RunsOn words code before after
swept_on {X} words n m has same code before after old new texts are swept ran =
    subst (λ (o : Option _). ExitsWith code (λ status. RunsFor o (sweep_in words) words status before after))
    (sym (no_export words 3 m has))
    (subst (λ (o : Option SweepAsked). ExitsWith code (λ status. RunsFor None o words status before after)) (sym asked_is)
    (by (sweep_of n words) swept (ran (no_export words n m has))))
  where
    asked_is : sweep_in words ≡ sweep_of n words
    asked_is =
        ap (λ (o : Option ℕ). sweep_of (unwrap_or o 0) words) has ∙ ap (λ (k : ℕ). sweep_of k words) (sym same)

    by : (o : Option SweepAsked)
        → IfSome o (λ asked. ExitsWith code (λ status. SweepOutcome file_limit asked status before after old new texts))
        → (o ≡ None → (status : Status) × (code ≡ code_of status) × Outcome (command_of words) status before after × X)
        → ExitsWith code (λ status. RunsFor None o words status before after)
    by None swept ran = let found = ran refl in (found.0, found.1, found.2)
    by (Some asked) (status, is, outcome) ran = (
      status,
      is,
      run_among (SweepAnswer file_limit asked new texts) (MeshesAnswer asked) (meshes_answer asked new texts are)
          (meshes_reads asked)
          status before after outcome.run,
    )
