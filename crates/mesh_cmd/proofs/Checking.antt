-- The answers of `check`: how they end, and how many files they read.
use Rattle.std.proofs.Common.{ℕ, ◌≡◌, ◌⊎◌, inl, inr, ap, subst, sym, List, Option, Some, None}
use Rattle.mesh.specs.Meshes.{Surface}
use Rattle.mesh_check.specs.declared.verdict.Verdict.{Verdict}
use Rattle.mesh_check.specs.declared.verdict.Verdict.TheVariants.{Keeps, Breaks}
use Rattle.mesh_provenance.specs.declared.provenance.Provenance.{Provenance}
use Rattle.command_run.specs.Answers.{Answer}
use Rattle.command_run.specs.declared.status.Status.{Status}
use Rattle.command_run.specs.declared.status.Status.TheVariants.{Done, No}
use Rattle.mesh_cmd.specs.Check.{ConfirmAnswer, check_answers, line_answer, verdict_answer}
use Rattle.mesh_cmd.proofs.SecondFile.{ReadTwo}

-- two files were read, and the answer is yes or no
abbrev pub Ends : Answer → Type 0
Ends answer = (answer.reads ≡ 2) × ((answer.status ≡ Done) ⊎ (answer.status ≡ No))

verdict_ends : (out : Surface) (verdict : Verdict) (answer : Answer) → answer ≡ verdict_answer out verdict → Ends answer
verdict_ends out (Keeps counts) answer is = (ap (λ (a : Answer). a.reads) is, inl (ap (λ (a : Answer). a.status) is))
verdict_ends out (Breaks fault) answer is = (ap (λ (a : Answer). a.reads) is, inr (ap (λ (a : Answer). a.status) is))

no_ends : (line : List ℕ) (answer : Answer) → answer ≡ line_answer No line → Ends answer
no_ends line answer is = (ap (λ (a : Answer). a.reads) is, inr (ap (λ (a : Answer). a.status) is))

pub check_ends : (digest : List ℕ) (mesh : Surface) (p : Option Provenance) (out : Surface) (answer : Answer)
    → ConfirmAnswer digest mesh p out answer → Ends answer
check_ends digest mesh None out answer is = no_ends _ answer is
check_ends digest mesh (Some p) out answer (inl (other, is)) = no_ends _ answer is
check_ends digest mesh (Some p) out answer (inr (same, judged)) = verdict_ends out judged.verdict answer judged.is

pub check_reads : ReadTwo check_answers
check_reads digest mesh bytes p out answer is = (check_ends digest mesh p out answer is).0

-- what holds of both statuses holds of each that is one of them
pub done_or_no : (P : Status → Type 0) (s : Status) → P Done → P No → (s ≡ Done) ⊎ (s ≡ No) → P s
done_or_no P s done denied (inl e) = subst P (sym e) done
done_or_no P s done denied (inr e) = subst P (sym e) denied
