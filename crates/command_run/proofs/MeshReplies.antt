-- Reading the mesh that a command begins with, and the answers to it.
use Rattle.std.proofs.Common.{◌≡◌, ◌⊎◌, inl, inr, ℕ, ◌+◌, ◌≤◌, ◌<◌, List, [], length, Option, Some, None, IfSome, false, refl, sym, ap}
use Rattle.std.proofs.Common.{subst, ◌∙◌, arith, unwrap_or}
use Rattle.host.specs.State.{State, Told, Files, file_bytes}
use Rattle.host.specs.Whole.{OnlyReads}
use Rattle.mesh.specs.Meshes.{Surface}
use Rattle.mesh.specs.declared.mesh.Mesh.{Mesh}
use Rattle.command_run.specs.Answers.{Answer, IsUnreadMesh, invalid, ToMesh, MayEnd, mesh_task}
use Rattle.command_run.specs.Lines.{too_long_mesh_line}
use Rattle.command_run.specs.Replies.{line_bytes, answer_of}
use Rattle.command_run.specs.Steps.{IsMeshReading, IsUnderstoodMesh, ReadsBy, surface_of, IsReplied, IsAnswered}
use Rattle.command_run.specs.declared.reply.Line.{Line}
use Rattle.command_run.specs.declared.reply.Reply.{Reply}
use Rattle.command_run.specs.declared.status.Status.{Status}
use Rattle.command_run.specs.declared.status.Status.TheVariants.{Done, Refused}
use Rattle.command_run.specs.declared.meshes.MeshReading.{MeshReading}
use Rattle.command_run.specs.declared.meshes.MeshReading.TheVariants as readings

-- the file is longer than the limit
pub mesh_long : (limit : ℕ) (name : List ℕ) (line : Line) (o : Option Told) → line_bytes line ≡ too_long_mesh_line
    → IfSome o (λ told. limit < length (file_bytes told.files name))
    → IfSome o (IsMeshReading limit name (readings.Refused line))
mesh_long limit name line None is longer = tt
mesh_long limit name line (Some told) is longer = with_bytes (told.files name) refl longer
  where
    with_bytes : (found : Option (List ℕ)) → told.files name ≡ found → limit < length (unwrap_or found [])
        → IsMeshReading limit name (readings.Refused line) told
    with_bytes None has more = absurd (omega arith)
    with_bytes (Some bytes) has more = (bytes, has, inl (record { longer = more; is = ap (λ (l : List ℕ). invalid 1 l) is }))

-- the file was read, and its bytes are read so
pub mesh_read : (limit : ℕ) (name bytes held : List ℕ) (reading : MeshReading) (o : Option Told) → held ≡ bytes
    → length bytes ≤ limit → IfSome o (λ told. told.files name ≡ Some bytes)
    → ((most : ℕ) → length held ≤ most → IsUnderstoodMesh most held reading) → IfSome o (IsMeshReading limit name reading)
mesh_read limit name bytes held reading None same within there understood = tt
mesh_read limit name bytes held reading (Some told) same within there understood =
    let short : length held ≤ limit = subst (λ (b : List ℕ). length b ≤ limit) (sym same) within in
    (bytes, there, subst (λ (b : List ℕ). IsUnderstoodMesh limit b reading) same (understood limit short))

-- the mesh is invalid, with this line
pub invalid_mesh : (limit : ℕ) (name : List ℕ) (Answers : Surface → Answer → Type 0) (line : Line) (answer : Answer)
    (o : Option Told) → answer ≡ invalid 1 (line_bytes line)
    → IfSome o (IsMeshReading limit name (readings.Refused line)) → IfSome o (λ told. ToMesh limit name Answers told.files answer)
invalid_mesh limit name Answers line answer None is read = tt
invalid_mesh limit name Answers line answer (Some told) is (bytes, there, unread) =
    (bytes, there, inl (subst (λ (a : Answer). IsUnreadMesh limit bytes a) (sym is) unread))

-- the mesh is there, and is answered so
pub answered_mesh : (limit : ℕ) (name : List ℕ) (Answers : Surface → Answer → Type 0) (mesh : Mesh) (answer : Answer)
    (o : Option Told) → Answers (surface_of mesh) answer
    → IfSome o (IsMeshReading limit name (readings.Mesh mesh)) → IfSome o (λ told. ToMesh limit name Answers told.files answer)
answered_mesh limit name Answers mesh answer None answers read = tt
answered_mesh limit name Answers mesh answer (Some told) answers (bytes, there, (within, printed, is)) =
    (bytes, there, inr (record { within = within; mesh = surface_of mesh; printed = printed; text_is = is; answers = answers }))

-- an invalid mesh is one file that was read
pub unread_reads : (limit : ℕ) (bytes : List ℕ) (answer : Answer) → IsUnreadMesh limit bytes answer → answer.reads ≡ 1
unread_reads limit bytes answer (inl long) = ap (λ (a : Answer). a.reads) long.is
unread_reads limit bytes answer (inr refused) = ap (λ (a : Answer). a.reads) refused.is

-- each answer to a mesh reads one file, if those to a valid one do
pub mesh_reads : (limit : ℕ) (name : List ℕ) (Answers : Surface → Answer → Type 0) (before after : State)
    → ((mesh : Surface) (answer : Answer) → Answers mesh answer → answer.reads ≡ 1)
    → before.writing ≡ false → OnlyReads before after → ReadsBy 1 (ToMesh limit name Answers) before after
mesh_reads limit name Answers before after one closed only =
    record {
      told = only.told;
      writing = only.writing ∙ closed;
      opens = omega (arith, only.opens);
      no_more = by_cases before.told;
    }
  where
    each : (files : Files) (answer : Answer) → ToMesh limit name Answers files answer → answer.reads ≡ 1
    each files answer (bytes, there, inl unread) = unread_reads limit bytes answer unread
    each files answer (bytes, there, inr answered) = one answered.mesh answer answered.answers

    by_cases : (o : Option Told)
        → IfSome o
        (λ told. (answer : Answer) → ToMesh limit name Answers told.files answer → after.opens ≤ before.opens + answer.reads)
    by_cases None = tt
    by_cases (Some told) = λ answer is. omega (arith, only.opens, each told.files answer is)

-- a reply to one file that was read
one_read : (A : Told → Answer → Type 0) (reply : Reply) (o : Option Told) → IfSome o (λ told. A told (answer_of 1 reply))
    → IfSome o (λ told. (reads : ℕ) × A told (answer_of reads reply))
one_read A reply None has = tt
one_read A reply (Some told) has = (1, has)

-- a reply that rejects the mesh
pub mesh_refused : (Denies : Type 0) (limit : ℕ) (name : List ℕ) (Answers : Surface → Answer → Type 0) (line : Line)
    (reply : Reply) (before : State) → answer_of 1 reply ≡ invalid 1 (line_bytes line)
    → IfSome before.told (IsMeshReading limit name (readings.Refused line))
    → IsReplied limit (mesh_task Denies name Answers) reply before
mesh_refused Denies limit name Answers line reply before is read =
    let status = ap (λ (a : Answer). a.status) is in
    record {
      fits = subst (λ (s : Status). MayEnd (mesh_task Denies name Answers) s) (sym status) tt;
      answered = subst IsAnswered (sym status) tt;
      answers =
          one_read (λ told answer. ToMesh limit name Answers told.files answer) reply before.told
          (invalid_mesh limit name Answers line (answer_of 1 reply) before.told is read);
    }

-- what holds of both statuses holds of each that is one of them
pub done_or_refused : (P : Status → Type 0) (s : Status) → P Done → P Refused → (s ≡ Done) ⊎ (s ≡ Refused) → P s
done_or_refused P s done refused (inl e) = subst P (sym e) done
done_or_refused P s done refused (inr e) = subst P (sym e) refused

-- a reply to a mesh, which is done or rejects it
pub mesh_answered : (Denies : Type 0) (limit : ℕ) (name : List ℕ) (Answers : Surface → Answer → Type 0) (mesh : Mesh)
    (reply : Reply) (before : State) → (reply.status ≡ Done) ⊎ (reply.status ≡ Refused)
    → Answers (surface_of mesh) (answer_of 1 reply)
    → IfSome before.told (IsMeshReading limit name (readings.Mesh mesh))
    → IsReplied limit (mesh_task Denies name Answers) reply before
mesh_answered Denies limit name Answers mesh reply before ends answers read =
    record {
      fits = done_or_refused (λ s. MayEnd (mesh_task Denies name Answers) s) reply.status tt tt ends;
      answered = done_or_refused IsAnswered reply.status tt tt ends;
      answers =
          one_read (λ told answer. ToMesh limit name Answers told.files answer) reply before.told
          (answered_mesh limit name Answers mesh (answer_of 1 reply) before.told answers read);
    }
