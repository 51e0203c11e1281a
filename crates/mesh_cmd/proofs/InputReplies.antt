-- Reading a mesh, with comments or without, and the answers to it.
--
-- A command may read a second file after its first. Reads change no file, so a reply to a mesh that was made after a further read is one
-- to the files as they were at the start (reply_behind, by same_told).
use Rattle.std.proofs.Common.{◌≡◌, ◌⊎◌, inl, inr, ℕ, ◌≤◌, ◌<◌, List, [], length, Option, Some, None, IfSome, refl, sym, ap}
use Rattle.std.proofs.Common.{subst, ◌∙◌, arith, unwrap_or}
use Rattle.host.specs.State.{State, Told, Files, file_bytes}
use Rattle.host.specs.Whole.{OnlyReads, apart_from_left}
use Rattle.sha2.specs.Sha256.{sha256}
use Rattle.mesh.specs.Meshes.{Surface}
use Rattle.mesh_provenance.specs.Laws.{IsFile}
use Rattle.mesh_provenance.specs.Texts.{file_text}
use Rattle.mesh_provenance.specs.declared.provenance.Provenance.{Provenance}
use Rattle.mesh_provenance.proofs.FileRefused.{file_passed}
use Rattle.command_run.specs.Answers.{Answer, Task, invalid, MayEnd}
use Rattle.command_run.specs.Replies.{line_bytes, answer_of}
use Rattle.command_run.specs.Steps.{IsReplied, IsReplyOf, IsAnswered}
use Rattle.command_run.specs.declared.reply.Line.{Line}
use Rattle.command_run.specs.declared.reply.Reply.{Reply}
use Rattle.command_run.specs.declared.status.Status.{Status}
use Rattle.command_run.specs.declared.status.Status.TheVariants.{Done, Refused}
use Rattle.command_run.proofs.MeshReplies.{done_or_refused}
use Rattle.command_run.proofs.Outcomes.{same_told}
use Rattle.mesh_cmd.specs.Input.{reads_at, too_long_at, IsUnreadFile, FileAnswered, Answering, ToInput, file_task, surface_of_input}
use Rattle.mesh_cmd.specs.Input.{IsUnderstoodInput, IsInputReading}
use Rattle.mesh_cmd.specs.declared.input.InputMesh.{InputMesh}
use Rattle.mesh_cmd.specs.declared.input.InputReading.{InputReading}
use Rattle.mesh_cmd.specs.declared.input.InputReading.TheVariants as readings
use Rattle.mesh_cmd.specs.declared.input.Role.{Role}
use Rattle.mesh_cmd.specs.declared.input.Role.TheVariants.{First}

-- ---- reading
-- the file is longer than the limit
pub input_long : (role : Role) (limit : ℕ) (name : List ℕ) (line : Line) (o : Option Told) → line_bytes line ≡ too_long_at role
    → IfSome o (λ told. limit < length (file_bytes told.files name))
    → IfSome o (IsInputReading role limit name (readings.Refused line))
input_long role limit name line None is longer = tt
input_long role limit name line (Some told) is longer = with_bytes (told.files name) refl longer
  where
    with_bytes : (found : Option (List ℕ)) → told.files name ≡ found → limit < length (unwrap_or found [])
        → IsInputReading role limit name (readings.Refused line) told
    with_bytes None has more = absurd (omega arith)
    with_bytes (Some bytes) has more =
        (bytes, has, inl (record { longer = more; is = ap (λ (l : List ℕ). invalid (reads_at role) l) is }))

-- the file was read, and its bytes are read so
pub input_read : (role : Role) (limit : ℕ) (name bytes held : List ℕ) (reading : InputReading) (o : Option Told) → held ≡ bytes
    → length bytes ≤ limit → IfSome o (λ told. told.files name ≡ Some bytes)
    → ((most : ℕ) → length held ≤ most → IsUnderstoodInput role most held reading)
    → IfSome o (IsInputReading role limit name reading)
input_read role limit name bytes held reading None same within there understood = tt
input_read role limit name bytes held reading (Some told) same within there understood =
    let short : length held ≤ limit = subst (λ (b : List ℕ). length b ≤ limit) (sym same) within in
    (bytes, there, subst (λ (b : List ℕ). IsUnderstoodInput role limit b reading) same (understood limit short))

-- ---- answers
-- the file is rejected, with this line
invalid_file : (role : Role) (limit : ℕ) (name : List ℕ) (A : Files → Answering) (line : Line) (answer : Answer) (o : Option Told)
    → answer ≡ invalid (reads_at role) (line_bytes line) → IfSome o (IsInputReading role limit name (readings.Refused line))
    → IfSome o (λ told. ToInput role limit name (A told.files) told.files answer)
invalid_file role limit name A line answer None is read = tt
invalid_file role limit name A line answer (Some told) is (bytes, there, unread) =
    (bytes, there, inl (subst (λ (a : Answer). IsUnreadFile role limit bytes a) (sym is) unread))

-- the mesh is there, and is answered so for any bytes with its digest
answered_file : (role : Role) (limit : ℕ) (name : List ℕ) (A : Files → Answering) (input : InputMesh) (answer : Answer)
    (o : Option Told)
    → IfSome o
    (λ told. (bytes : List ℕ) → input.digest ≡ sha256 bytes → A told.files bytes input.provenance (surface_of_input input) answer)
    → IfSome o (IsInputReading role limit name (readings.Mesh input))
    → IfSome o (λ told. ToInput role limit name (A told.files) told.files answer)
answered_file role limit name A input answer None answers read = tt
answered_file role limit name A input answer (Some told) answers (bytes, there, (within, file, is, digest)) = (
  bytes,
  there,
  inr (record {
    within = within;
    provenance = input.provenance;
    mesh = surface_of_input input;
    file = file;
    text_is = is;
    answers = answers bytes digest;
  }),
)

-- ---- replies
-- a reply after this number of reads
counted : (reads : ℕ) (A : Told → Answer → Type 0) (reply : Reply) (o : Option Told) → IfSome o (λ told. A told (answer_of reads reply))
    → IfSome o (λ told. (count : ℕ) × A told (answer_of count reply))
counted reads A reply None has = tt
counted reads A reply (Some told) has = (reads, has)

-- a reply that rejects the file
pub reply_refused : (task : Task) (role : Role) (limit : ℕ) (name : List ℕ) (A : Files → Answering) (line : Line) (reply : Reply)
    (before : State) → MayEnd task Refused → answer_of (reads_at role) reply ≡ invalid (reads_at role) (line_bytes line)
    → IfSome before.told (IsInputReading role limit name (readings.Refused line))
    → IsReplyOf task (λ files. ToInput role limit name (A files) files) reply before
reply_refused task role limit name A line reply before may is read =
    let status = ap (λ (a : Answer). a.status) is in
    record {
      fits = subst (λ (s : Status). MayEnd task s) (sym status) may;
      answered = subst IsAnswered (sym status) tt;
      answers =
          counted (reads_at role) (λ told answer. ToInput role limit name (A told.files) told.files answer) reply before.told
          (invalid_file role limit name A line (answer_of (reads_at role) reply) before.told is read);
    }

-- a reply to a mesh
pub reply_answered : (task : Task) (role : Role) (limit : ℕ) (name : List ℕ) (Answers : Answering) (input : InputMesh) (reply : Reply)
    (before : State) → MayEnd task reply.status → IsAnswered reply.status
    → ((bytes : List ℕ) → input.digest ≡ sha256 bytes
    → Answers bytes input.provenance (surface_of_input input) (answer_of (reads_at role) reply))
    → IfSome before.told (IsInputReading role limit name (readings.Mesh input))
    → IsReplyOf task (ToInput role limit name Answers) reply before
reply_answered task role limit name Answers input reply before fits answered answers read =
    record {
      fits = fits;
      answered = answered;
      answers =
          counted (reads_at role) (λ told answer. ToInput role limit name Answers told.files answer) reply before.told
          (answered_file role limit name (λ files. Answers) input (answer_of (reads_at role) reply) before.told (for_all before.told)
          read);
    }
  where
    for_all : (o : Option Told)
        → IfSome o
        (λ told. (bytes : List ℕ) → input.digest ≡ sha256 bytes
        → Answers bytes input.provenance (surface_of_input input) (answer_of (reads_at role) reply))
    for_all None = tt
    for_all (Some told) = answers

-- a reply that rejects the only file
pub file_refused : (Denies : Type 0) (limit : ℕ) (name : List ℕ) (Answers : Answering) (line : Line) (reply : Reply)
    (before : State) → answer_of 1 reply ≡ invalid 1 (line_bytes line)
    → IfSome before.told (IsInputReading First limit name (readings.Refused line))
    → IsReplied limit (file_task Denies name Answers) reply before
file_refused Denies limit name Answers line reply before is read =
    reply_refused (file_task Denies name Answers) First limit name (λ files. Answers) line reply before tt is read

-- a reply to the mesh of the only file, which is done or rejects it
pub file_answered : (Denies : Type 0) (limit : ℕ) (name : List ℕ) (Answers : Answering) (input : InputMesh) (reply : Reply)
    (before : State) → (reply.status ≡ Done) ⊎ (reply.status ≡ Refused)
    → ((bytes : List ℕ) → input.digest ≡ sha256 bytes
    → Answers bytes input.provenance (surface_of_input input) (answer_of 1 reply))
    → IfSome before.told (IsInputReading First limit name (readings.Mesh input))
    → IsReplied limit (file_task Denies name Answers) reply before
file_answered Denies limit name Answers input reply before ends answers read =
    reply_answered (file_task Denies name Answers) First limit name Answers input reply before
    (done_or_refused (λ s. MayEnd (file_task Denies name Answers) s) reply.status tt tt ends)
    (done_or_refused IsAnswered reply.status tt tt ends) answers read

-- the mesh has this reply, made after a further read
pub reply_behind : (task : Task) (role : Role) (limit : ℕ) (name : List ℕ) (A : Files → Answering) (input : InputMesh) (reply : Reply)
    (before mid : State) → OnlyReads before mid → IfSome before.told (IsInputReading role limit name (readings.Mesh input))
    → IsReplyOf task
    (λ files answer. (bytes : List ℕ) → input.digest ≡ sha256 bytes
    → A files bytes input.provenance (surface_of_input input) answer) reply mid
    → IsReplyOf task (λ files. ToInput role limit name (A files) files) reply before
reply_behind task role limit name A input reply before mid only there is =
    record {
      fits = is.fits;
      answered = is.answered;
      answers = by_cases before.told mid.told only.told there is.answers;
    }
  where
    By : Files → Answer → Type 0
    By files answer =
        (bytes : List ℕ) → input.digest ≡ sha256 bytes → A files bytes input.provenance (surface_of_input input) answer

    by_cases : (b m : Option Told) → apart_from_left m ≡ apart_from_left b
        → IfSome b (IsInputReading role limit name (readings.Mesh input))
        → IfSome m (λ told. (count : ℕ) × By told.files (answer_of count reply))
        → IfSome b (λ told. (count : ℕ) × ToInput role limit name (A told.files) told.files (answer_of count reply))
    by_cases None m same there answers = tt
    by_cases (Some old) None same there answers = cc
    by_cases (Some old) (Some now) same there (count, answers) = (
      count,
      answered_file role limit name A input (answer_of count reply) (Some old)
          (subst (λ (files : Files). By files (answer_of count reply)) (same_told now old same).files answers) there,
    )

-- ---- reads
-- a rejected file is the last one that was read
pub unread_reads : (role : Role) (limit : ℕ) (bytes : List ℕ) (answer : Answer) → IsUnreadFile role limit bytes answer
    → answer.reads ≡ reads_at role
unread_reads role limit bytes answer (inl long) = ap (λ (a : Answer). a.reads) long.is
unread_reads role limit bytes answer (inr refused) = ap (λ (a : Answer). a.reads) refused.is

-- a mesh is not rejected
mesh_passed : (role : Role) (limit : ℕ) (bytes : List ℕ) (answer : Answer) (p : Option Provenance) (mesh : Surface)
    → length bytes ≤ limit → IsFile p mesh.points mesh.faces → bytes ≡ file_text p mesh.points mesh.faces
    → IsUnreadFile role limit bytes answer → ⊥
mesh_passed role limit bytes answer p mesh within file is (inl long) = omega (arith, within, long.longer)
mesh_passed role limit bytes answer p mesh within file is (inr refused) =
    file_passed p mesh.points mesh.faces bytes refused.why file is refused.refused

-- the answers to a mesh that was read are those to its bytes
pub mesh_answers : (role : Role) (limit : ℕ) (name : List ℕ) (Answers : Answering) (input : InputMesh) (told : Told) (answer : Answer)
    → IsInputReading role limit name (readings.Mesh input) told → ToInput role limit name Answers told.files answer
    → (bytes : List ℕ) × FileAnswered limit Answers bytes answer
mesh_answers role limit name Answers input told answer (held, here, (within, file, is, digest)) (bytes, there, inr answered) =
    (bytes, answered)
mesh_answers role limit name Answers input told answer (held, here, (within, file, is, digest)) (bytes, there, inl unread) =
    let same : bytes ≡ held = some_inj (sym there ∙ here) in
    absurd (mesh_passed role limit held answer input.provenance (surface_of_input input) within file is
    (subst (λ (b : List ℕ). IsUnreadFile role limit b answer) same unread))
  where
    some_inj : {a b : List ℕ} → Some a ≡ Some b → a ≡ b
    some_inj e = ap (λ (o : Option (List ℕ)). unwrap_or o []) e
