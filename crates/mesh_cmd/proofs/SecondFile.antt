-- Commands that read a mesh, and if that is valid another file: replies, and how many files are read.
--
-- Each answer reads at least one file (reads_first). No text of a mesh is rejected, so after the first file was read as a mesh, each
-- answer is one to the second file and reads two (reads_both, by mesh_answers). The answers depend on the digest that the program has
-- computed, which is that of any bytes of the first file (first_replied).
use Rattle.std.proofs.Common.{ℕ, ◌≡◌, ◌+◌, ◌≤◌, ◌∙◌, arith, subst, List, Option, Some, None, IfSome, false}
use Rattle.std.proofs.Common.{Result, Ok, Err, IfOk, inl, inr}
use Rattle.std.proofs.lemmas.Option.{IfSome_then}
use Rattle.host.specs.State.{State, Told, Files}
use Rattle.host.specs.Whole.{OnlyReads}
use Rattle.sha2.specs.Sha256.{sha256}
use Rattle.mesh.specs.Meshes.{Surface}
use Rattle.mesh_provenance.specs.declared.provenance.Provenance.{Provenance}
use Rattle.command_run.specs.Answers.{Answer}
use Rattle.command_run.specs.Replies.{answer_of}
use Rattle.command_run.specs.Steps.{IsReplied, IsReplyOf, ReadsFor}
use Rattle.command_run.specs.declared.reply.Reply.{Reply}
use Rattle.mesh_cmd.specs.Input.{Answering, Second, ToInput, IsInputReading, pair_task, reads_at, surface_of_input}
use Rattle.mesh_cmd.specs.declared.input.InputMesh.{InputMesh}
use Rattle.mesh_cmd.specs.declared.input.InputReading.TheVariants as readings
use Rattle.mesh_cmd.specs.declared.input.Role.{Role}
use Rattle.mesh_cmd.specs.declared.input.Role.TheVariants.{First}
use Rattle.mesh_cmd.proofs.InputReplies.{mesh_answers, reply_behind, unread_reads}

-- the answers to the second file
abbrev pub SecondAnswer : (limit : ℕ) → Role → (name : List ℕ) → Second → (digest : List ℕ) → Surface → Files → Answer → Type 0
SecondAnswer limit role name Answers digest mesh = ToInput role limit name (Answers digest mesh)

-- the answers to the bytes of the first file
abbrev pub first_answers : (limit : ℕ) → Role → (name : List ℕ) → Second → Files → Answering
first_answers limit role name Answers files bytes p mesh = SecondAnswer limit role name Answers (sha256 bytes) mesh files

-- each answer to two meshes reads two files
abbrev pub ReadTwo : Second → Type 0
ReadTwo Answers =
    (digest : List ℕ) (mesh : Surface) (bytes : List ℕ) (p : Option Provenance) (other : Surface) (answer : Answer)
    → Answers digest mesh bytes p other answer → answer.reads ≡ 2

-- ---- the replies
-- a reply to the second file is one to both files as they were before the first was read
pub first_replied : {E : Type 0} (Denies : Type 0) (role : Role) (limit : ℕ) (first second : List ℕ) (A : Second) (input : InputMesh)
    (result : Result Reply E) (before mid : State) → OnlyReads before mid
    → IfSome before.told (IsInputReading First limit first (readings.Mesh input))
    → IfOk result
    (λ reply. IsReplyOf (pair_task Denies role first second A)
    (SecondAnswer limit role second A input.digest (surface_of_input input)) reply mid)
    → IfOk result (λ reply. IsReplied limit (pair_task Denies role first second A) reply before)
first_replied Denies role limit first second A input (Err e) before mid only read is = tt
first_replied Denies role limit first second A input (Ok reply) before mid only read is =
    reply_behind (pair_task Denies role first second A) First limit first (first_answers limit role second A) input reply before mid
    only read
    (record {
      fits = is.fits;
      answered = is.answered;
      answers =
          IfSome_then mid.told is.answers
          (λ told (count, has). (
            count,
            λ bytes e.
                subst
                (λ (d : List ℕ). SecondAnswer limit role second A d (surface_of_input input) told.files (answer_of count reply)) e
                has,
          ));
    })

-- ---- the reads
second_reads : (role : Role) (limit : ℕ) (name : List ℕ) (A : Second) (digest : List ℕ) (mesh : Surface) (files : Files)
    (answer : Answer) → reads_at role ≡ 2 → ReadTwo A → SecondAnswer limit role name A digest mesh files answer → answer.reads ≡ 2
second_reads role limit name A digest mesh files answer late two (bytes, there, inl unread) =
    unread_reads role limit bytes answer unread ∙ late
second_reads role limit name A digest mesh files answer late two (bytes, there, inr answered) =
    two digest mesh bytes answered.provenance answered.mesh answer answered.answers

-- at least one file was read
some_read : (role : Role) (limit : ℕ) (first second : List ℕ) (A : Second) (files : Files) (answer : Answer) → reads_at role ≡ 2
    → ReadTwo A → ToInput First limit first (first_answers limit role second A files) files answer → 1 ≤ answer.reads
some_read role limit first second A files answer late two (bytes, there, inl unread) =
    omega (arith, unread_reads First limit bytes answer unread)
some_read role limit first second A files answer late two (bytes, there, inr answered) =
    omega (arith, second_reads role limit second A (sha256 bytes) answered.mesh files answer late two answered.answers)

-- the first file was read
pub reads_first : (Denies : Type 0) (role : Role) (limit : ℕ) (first second : List ℕ) (A : Second) (before after : State)
    → reads_at role ≡ 2 → ReadTwo A → before.writing ≡ false → OnlyReads before after
    → ReadsFor limit (pair_task Denies role first second A) before after
reads_first Denies role limit first second A before after late two closed only =
    record {
      told = only.told;
      writing = only.writing ∙ closed;
      opens = omega (arith, only.opens);
      no_more = by_cases before.told;
    }
  where
    by_cases : (o : Option Told)
        → IfSome o
        (λ told. (answer : Answer) → ToInput First limit first (first_answers limit role second A told.files) told.files answer
        → after.opens ≤ before.opens + answer.reads)
    by_cases None = tt
    by_cases (Some told) =
        λ answer is. omega (arith, only.opens, some_read role limit first second A told.files answer late two is)

-- the first was read as a mesh, and then the second
pub reads_both : (Denies : Type 0) (role : Role) (limit : ℕ) (first second : List ℕ) (A : Second) (input : InputMesh)
    (before mid after : State) → reads_at role ≡ 2 → ReadTwo A → before.writing ≡ false → OnlyReads before mid
    → OnlyReads mid after → IfSome before.told (IsInputReading First limit first (readings.Mesh input))
    → ReadsFor limit (pair_task Denies role first second A) before after
reads_both Denies role limit first second A input before mid after late two closed only more read =
    record {
      told = more.told ∙ only.told;
      writing = more.writing ∙ (only.writing ∙ closed);
      opens = omega (arith, only.opens, more.opens);
      no_more = by_cases before.told read;
    }
  where
    each : (told : Told) (answer : Answer) → IsInputReading First limit first (readings.Mesh input) told
        → ToInput First limit first (first_answers limit role second A told.files) told.files answer → answer.reads ≡ 2
    each told answer here is =
        let found = mesh_answers First limit first (first_answers limit role second A told.files) input told answer here is in
        second_reads role limit second A (sha256 found.0) found.1.mesh told.files answer late two found.1.answers

    by_cases : (o : Option Told) → IfSome o (IsInputReading First limit first (readings.Mesh input))
        → IfSome o
        (λ told. (answer : Answer) → ToInput First limit first (first_answers limit role second A told.files) told.files answer
        → after.opens ≤ before.opens + answer.reads)
    by_cases None here = tt
    by_cases (Some told) here = λ answer is. omega (arith, only.opens, more.opens, each told answer here is)
