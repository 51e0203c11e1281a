-- The answers of `move`: how they end, and how many files they read.
use Rattle.std.proofs.Common.{ℕ, ◌≡◌, ◌⊎◌, inl, inr, ap, ◌∙◌, List}
use Rattle.mesh.specs.Meshes.{Surface}
use Rattle.command_run.specs.Answers.{Answer}
use Rattle.command_run.specs.declared.status.Status.TheVariants.{Done, Refused}
use Rattle.mesh_cmd.specs.Finish.{IsNotFinished}
use Rattle.mesh_cmd.specs.Moving.{MoveAnswer, move_answers}
use Rattle.mesh_cmd.specs.declared.options.FinishRequest.{FinishRequest}
use Rattle.mesh_cmd.proofs.SecondFile.{ReadTwo}

refused_status : (request : FinishRequest) (mesh : Surface) (answer : Answer) → IsNotFinished request.options mesh answer
    → answer.status ≡ Refused
refused_status request mesh answer (inl edge) = ap (λ (a : Answer). a.status) edge.is
refused_status request mesh answer (inr step) = ap (λ (a : Answer). a.status) step.is

-- two files were read, and the answer is done or rejected
abbrev pub Ends : Answer → Type 0
Ends answer = (answer.reads ≡ 2) × ((answer.status ≡ Done) ⊎ (answer.status ≡ Refused))

pub move_ends : (output : List ℕ) (request : FinishRequest) (digest : List ℕ) (mesh targets : Surface) (answer : Answer)
    → MoveAnswer output request digest mesh targets answer → Ends answer
move_ends output request digest mesh targets answer (inl writes) =
    (ap (λ (a : Answer). a.reads) writes.is, inl (ap (λ (a : Answer). a.status) writes.is))
move_ends output request digest mesh targets answer (inr (inl other)) =
    (ap (λ (a : Answer). a.reads) other.is, inr (ap (λ (a : Answer). a.status) other.is))
move_ends output request digest mesh targets answer (inr (inr (one, why, is))) =
    (ap (λ (a : Answer). a.reads) is, inr (ap (λ (a : Answer). a.status) is ∙ refused_status request mesh one why))

pub move_reads : (output : List ℕ) (request : FinishRequest) → ReadTwo (move_answers output request)
move_reads output request digest mesh bytes p targets answer is = (move_ends output request digest mesh targets answer is).0
