-- Files that are meshes, and how runs end in which no call fails, over a host that exposes its files.
--
-- A mesh that has a text is not rejected, and the text belongs to no other mesh, so each answer to its file is one to it (opened). A run
-- has carried an answer out, or memory ran out (answered_or_starved).
use Rattle.std.proofs.Common.{ℕ, ◌≡◌, ◌≤◌, ◌⊎◌, ◌∙◌, inl, inr, refl, sym, ap, subst, arith, List, length, Option, Some, None, IfSome}
use Rattle.std.specs.Option.{IsSomeAnd}
use Rattle.geo_sign.specs.Point.{Point}
use Rattle.host.specs.Counts.{Rose}
use Rattle.host.specs.State.{State, Told, Files}
use Rattle.mesh.specs.Meshes.{Surface}
use Rattle.mesh_provenance.specs.Laws.{IsFile}
use Rattle.mesh_provenance.specs.Texts.{file_text}
use Rattle.mesh_provenance.specs.declared.provenance.Provenance.{Provenance}
use Rattle.mesh_provenance.proofs.FileCodes.{file_code}
use Rattle.mesh_provenance.proofs.FileRefused.{file_passed}
use Rattle.command_run.specs.Answers.{Answer}
use Rattle.command_run.specs.Outcome.{EndsBy, FaultsFit, Run, TellsBy, WhereTold}
use Rattle.command_run.specs.declared.status.Status.{Status}
use Rattle.command_run.specs.declared.status.Status.TheVariants.{Done, No, BadArguments, Refused, Failed, NoMemory}
use Rattle.mesh_cmd.specs.Input.{Answering, FileAnswered, IsUnreadFile, ToInput}
use Rattle.mesh_cmd.specs.declared.input.Role.{Role}

-- ---- files
-- a mesh is not rejected
pub not_unread : (role : Role) (limit : ℕ) (bytes : List ℕ) (answer : Answer) (p : Option Provenance) (mesh : Surface)
    → length bytes ≤ limit → IsFile p mesh.points mesh.faces → bytes ≡ file_text p mesh.points mesh.faces
    → IsUnreadFile role limit bytes answer → ⊥
not_unread role limit bytes answer p mesh within file is (inl long) = omega (arith, within, long.longer)
not_unread role limit bytes answer p mesh within file is (inr refused) =
    file_passed p mesh.points mesh.faces bytes refused.why file is refused.refused

same_surface : (m n : Surface) → m.points ≡ n.points → m.faces ≡ n.faces → m ≡ n
same_surface m n p f =
    ap (λ (points : List Point). surface points m.faces) p ∙ ap (λ (faces : List (List ℕ)). surface n.points faces) f
  where
    surface : List Point → List (List ℕ) → Surface
    surface points faces = record { points = points; faces = faces }

-- the answer to a file that has this text is one to this mesh
pub answered : (limit : ℕ) (A : Answering) (bytes : List ℕ) (answer : Answer) (p : Option Provenance) (mesh : Surface)
    → IsFile p mesh.points mesh.faces → bytes ≡ file_text p mesh.points mesh.faces → FileAnswered limit A bytes answer
    → A bytes p mesh answer
answered limit A bytes answer p mesh file is found =
    let same =
    file_code found.provenance p found.mesh.points mesh.points found.mesh.faces mesh.faces found.file file (sym found.text_is ∙ is) in
    subst (λ (q : Option Provenance). A bytes q mesh answer) same.0
    (subst (λ (m : Surface). A bytes found.provenance m answer) (same_surface found.mesh mesh same.1 same.2) found.answers)

pub opened : (role : Role) (limit : ℕ) (name : List ℕ) (A : Answering) (files : Files) (bytes : List ℕ) (answer : Answer)
    (p : Option Provenance) (mesh : Surface) → files name ≡ Some bytes → length bytes ≤ limit → IsFile p mesh.points mesh.faces
    → bytes ≡ file_text p mesh.points mesh.faces → ToInput role limit name A files answer → A bytes p mesh answer
opened role limit name A files bytes answer p mesh has within file is (found, there, answers) =
    let same : found ≡ bytes = cc (there, has) in
    by (subst (λ (b : List ℕ). IsUnreadFile role limit b answer ⊎ FileAnswered limit A b answer) same answers)
  where
    by : IsUnreadFile role limit bytes answer ⊎ FileAnswered limit A bytes answer → A bytes p mesh answer
    by (inl unread) = absurd (not_unread role limit bytes answer p mesh within file is unread)
    by (inr found) = answered limit A bytes answer p mesh file is found

-- ---- runs
-- what the host exposes after a run
pub told_after : (P : Told → Told → Type 0) (told : Told) (before after : State) → before.told ≡ Some told
    → WhereTold before after P → (new : Told) × (after.told ≡ Some new) × P told new
told_after P told before after is where_told =
    by_cases after.told refl
    (subst (λ (o : Option Told). IfSome o (λ old. IsSomeAnd after.told (λ new. P old new))) is where_told)
  where
    by_cases : (o : Option Told) → after.told ≡ o → IsSomeAnd o (λ new. P told new)
        → (new : Told) × (after.told ≡ Some new) × P told new
    by_cases None same t = absurd t
    by_cases (Some new) same t = (new, same, t)

-- an answer to these files that has this status
abbrev pub Answered : (A : Files → Answer → Type 0) → Files → Status → Type 0
Answered A files status = (answer : Answer) × A files answer × (answer.status ≡ status)

-- an answer was carried out, or memory ran out
pub answered_or_starved : (Fits : Status → Type 0) (most : ℕ) (A : Files → Answer → Type 0) (status : Status) (before after : State)
    (told : Told) → before.told ≡ Some told → ¬ Rose before.faults after.faults → Run Fits most A status before after
    → Answered A told.files status ⊎ (status ≡ NoMemory)
answered_or_starved Fits most A status before after told is none run =
    let there = told_after (TellsBy A status) told before after is run.tells in by_status status there.0 run.faults there.2
  where
    ended : (s : Status) (new : Told) → EndsBy A s told new → Answered A told.files s ⊎ (s ≡ NoMemory)
    ended s new ends = inl (ends.answer, ends.answers, ends.status_is)

    by_status : (s : Status) (new : Told) → FaultsFit s before.faults after.faults → TellsBy A s told new
        → Answered A told.files s ⊎ (s ≡ NoMemory)
    by_status Done new faults tells = ended Done new tells
    by_status No new faults tells = ended No new tells
    by_status BadArguments new faults tells = ended BadArguments new tells
    by_status Refused new faults tells = ended Refused new tells
    by_status Failed new faults tells = absurd (none faults)
    by_status NoMemory new faults tells = inr refl
