-- The replies of commands that read files: to a file that is rejected, to the content of one, and to further files after it.
--
-- Reads change no file, so a reply to the content of a file, made after further reads, is one to the files as they were at the
-- start (reply_behind, by same_told), and the further reads are one fewer than all (reads_behind). A file that is rejected has a
-- reply at once (reply_rejects, too_long). A host may expose no files, so each fact of files is one under IfSome.
use Rattle.std.proofs.Common.{◌≡◌, ℕ, ◌+◌, ◌≤◌, ◌<◌, List, length, Option, Some, None, IfSome, Result, Ok, Err, IfOk, false}
use Rattle.std.proofs.Common.{sym, ap, subst, ◌∙◌, arith}
use Rattle.std.proofs.lemmas.Option.{IfSome_then}
use Rattle.host.specs.State.{State, Told, Files, file_bytes}
use Rattle.host.specs.Whole.{OnlyReads, apart_from_left}
use Rattle.command_run.specs.Answers.{Answer, MayEnd, Task, invalid}
use Rattle.command_run.specs.Replies.{answer_of}
use Rattle.command_run.specs.Steps.{IsAnswered, IsReplyOf, ReadsBy}
use Rattle.command_run.specs.declared.reply.Reply.{Reply}
use Rattle.command_run.specs.declared.status.Status.{Status}
use Rattle.command_run.specs.declared.status.Status.TheVariants.{Refused}
use Rattle.command_run.proofs.Outcomes.{same_told}
use Rattle.recon_cmd.specs.Answers.{ToContent, ToFile, up_to}
use Rattle.recon_cmd.specs.Steps.{ReadsOn}
use Rattle.recon_cmd.proofs.FileAnswers.{Found, opened, up_to_long}

-- a set of answers for these files
abbrev pub Answers : Type 1
Answers = Files → Answer → Type 0

-- the named file is there, and is read so
abbrev pub IsFound : {V : Type 0} → (name : List ℕ) → (read : List ℕ → Found V) → (bytes : List ℕ) → Found V → Told → Type 0
IsFound name read bytes found told = (told.files name ≡ Some bytes) × (read bytes ≡ found)

-- a file that is longer than the limit is there
pub long_file : (limit : ℕ) (name : List ℕ) (told : Told) → limit < length (file_bytes told.files name)
    → (bytes : List ℕ) × (told.files name ≡ Some bytes) × (limit < length bytes)
long_file limit name told longer = grind arith

-- ---- replies
-- a reply of this status
pub reply_so : (task : Task) (A : Answers) (status : Status) (reads : ℕ) (reply : Reply) (before : State)
    → reply.status ≡ status → MayEnd task status → IsAnswered status
    → IfSome before.told (λ told. A told.files (answer_of reads reply)) → IsReplyOf task A reply before
reply_so task A status reads reply before is fits answered there = grind arith

-- what the file is read as has this reply
pub reply_to_found : {V : Type 0} (task : Task) (reads : ℕ) (name : List ℕ) (read : List ℕ → Found V)
    (A : List ℕ → V → Answer → Type 0) (bytes : List ℕ) (found : Found V) (status : Status) (reply : Reply) (before : State)
    → reply.status ≡ status → MayEnd task status → IsAnswered status → ToContent reads (A bytes) found (answer_of reads reply)
    → IfSome before.told (IsFound name read bytes found) → IsReplyOf task (ToFile reads name read A) reply before
reply_to_found task reads name read A bytes found status reply before is fits answered answers there =
    grind (arith, reply_so task (ToFile reads name read A) status reads reply before is, opened reads name read A)

-- the file is rejected with this line
pub reply_rejects : {V : Type 0} (task : Task) (reads : ℕ) (name : List ℕ) (read : List ℕ → Found V)
    (A : Files → List ℕ → V → Answer → Type 0) (line : List ℕ) (reply : Reply) (before : State) → MayEnd task Refused
    → answer_of reads reply ≡ invalid reads line
    → IfSome before.told (λ told. (bytes : List ℕ) × (told.files name ≡ Some bytes) × (read bytes ≡ Err (Some line)))
    → IsReplyOf task (λ files. ToFile reads name read (A files) files) reply before
reply_rejects task reads name read A line reply before may is there =
    reply_so task (λ files. ToFile reads name read (A files) files) Refused reads reply before (ap (λ (a : Answer). a.status) is) may tt
    (IfSome_then before.told there
    (λ told (bytes, has, found).
    (opened reads name read (A told.files) told.files bytes (Err (Some line)) (answer_of reads reply) has found).1 is))

-- the file is longer than the limit
pub too_long : {V : Type 0} (task : Task) (reads limit : ℕ) (name long : List ℕ) (read : List ℕ → Found V)
    (A : Files → List ℕ → V → Answer → Type 0) (line : List ℕ) (reply : Reply) (before : State) → MayEnd task Refused
    → answer_of reads reply ≡ invalid reads line → line ≡ long
    → IfSome before.told (λ told. limit < length (file_bytes told.files name))
    → IsReplyOf task (λ files. ToFile reads name (up_to limit long read) (A files) files) reply before
too_long task reads limit name long read A line reply before may is line_is longer =
    reply_rejects task reads name (up_to limit long read) A long reply before may (is ∙ ap (invalid reads) line_is)
    (IfSome_then before.told longer
    (λ told more. let there = long_file limit name told more in
    (there.0, there.1, up_to_long limit long read there.0 there.2)))

-- the content of the file has this reply, made after further reads
pub reply_behind : {V : Type 0} (task : Task) (reads : ℕ) (name : List ℕ) (read : List ℕ → Found V)
    (A : Files → List ℕ → V → Answer → Type 0) (bytes : List ℕ) (content : V) (reply : Reply) (before mid : State)
    → OnlyReads before mid → IfSome before.told (IsFound name read bytes (Ok content))
    → IsReplyOf task (λ files. A files bytes content) reply mid
    → IsReplyOf task (λ files. ToFile reads name read (A files) files) reply before
reply_behind {V} task reads name read A bytes content reply before mid only there is =
    record {
      fits = is.fits;
      answered = is.answered;
      answers = by_cases before.told mid.told only.told there is.answers;
    }
  where
    by_cases : (b m : Option Told) → apart_from_left m ≡ apart_from_left b → IfSome b (IsFound name read bytes (Ok content))
        → IfSome m (λ told. (count : ℕ) × A told.files bytes content (answer_of count reply))
        → IfSome b (λ told. (count : ℕ) × ToFile reads name read (A told.files) told.files (answer_of count reply))
    by_cases None m same there answers = tt
    by_cases (Some old) None same there answers = cc
    by_cases (Some old) (Some now) same (has, found) (count, answers) = (
      count,
      (opened reads name read (A old.files) old.files bytes (Ok content) (answer_of count reply) has found).1
          (subst (λ (files : Files). A files bytes content (answer_of count reply)) (same_told now old same).files answers),
    )

-- and where there may be no reply
pub result_behind : {V E : Type 0} (task : Task) (reads : ℕ) (name : List ℕ) (read : List ℕ → Found V)
    (A : Files → List ℕ → V → Answer → Type 0) (bytes : List ℕ) (content : V) (result : Result Reply E) (before mid : State)
    → OnlyReads before mid → IfSome before.told (IsFound name read bytes (Ok content))
    → IfOk result (λ reply. IsReplyOf task (λ files. A files bytes content) reply mid)
    → IfOk result (λ reply. IsReplyOf task (λ files. ToFile reads name read (A files) files) reply before)
result_behind task reads name read A bytes content (Err e) before mid only there is = tt
result_behind task reads name read A bytes content (Ok reply) before mid only there is =
    reply_behind task reads name read A bytes content reply before mid only there is

-- ---- reads
-- the last file was read, after this number of others
pub reads_last : (done : ℕ) (A : Answers) (before after : State)
    → ((files : Files) (answer : Answer) → A files answer → answer.reads ≡ done + 1) → before.writing ≡ false
    → OnlyReads before after → ReadsOn done 1 A before after
reads_last done A before after each closed only = grind arith

-- all of them were read
pub reads_all : (most : ℕ) (A : Answers) (before after : State) → ReadsOn 0 most A before after → ReadsBy most A before after
reads_all most A before after reads = grind arith

-- a file was read whose content decides, and then the others
pub reads_behind : {V : Type 0} (reads : ℕ) (name : List ℕ) (read : List ℕ → Found V)
    (A : Files → List ℕ → V → Answer → Type 0) (bytes : List ℕ) (content : V) (done most : ℕ) (before mid after : State)
    → OnlyReads before mid → IfSome before.told (IsFound name read bytes (Ok content))
    → ReadsOn (done + 1) most (λ files. A files bytes content) mid after
    → ReadsOn done (most + 1) (λ files. ToFile reads name read (A files) files) before after
reads_behind {V} reads name read A bytes content done most before mid after only there others =
    record {
      told = others.told ∙ only.told;
      writing = others.writing;
      opens = omega (arith, only.opens, others.opens);
      no_more = by_cases before.told mid.told only.told there others.no_more;
    }
  where
    by_cases : (b m : Option Told) → apart_from_left m ≡ apart_from_left b → IfSome b (IsFound name read bytes (Ok content))
        → IfSome m
        (λ told. (answer : Answer) → A told.files bytes content answer → after.opens + (done + 1) ≤ mid.opens + answer.reads)
        → IfSome b
        (λ told. (answer : Answer) → ToFile reads name read (A told.files) told.files answer
        → after.opens + done ≤ before.opens + answer.reads)
    by_cases None m same there no_more = tt
    by_cases (Some old) None same there no_more = cc
    by_cases (Some old) (Some now) same (has, found) no_more = λ answer answers.
        let decided : A now.files bytes content answer =
        subst (λ (files : Files). A files bytes content answer) (sym (same_told now old same).files)
        ((opened reads name read (A old.files) old.files bytes (Ok content) answer has found).0 answers) in
        omega (arith, only.opens, no_more answer decided)
