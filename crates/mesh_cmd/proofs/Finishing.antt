-- The answers of `finish`: how they end, and what is written.
use Rattle.std.proofs.Common.{ℕ, ◌≡◌, ◌⊎◌, inl, inr, ap, ◌∙◌, List}
use Rattle.mesh.specs.Meshes.{Surface}
use Rattle.mesh_edges.specs.Edges.{IsBalanced, IsFirstUnbalanced}
use Rattle.finish_options.specs.declared.options.FinishOptions.{FinishOptions}
use Rattle.mesh_finish.specs.Steps.{IsUnverifiedStep}
use Rattle.mesh_finish.specs.declared.options.Step.{Step}
use Rattle.command_run.specs.Answers.{Answer, invalid}
use Rattle.command_run.specs.declared.status.Status.TheVariants.{Done, Refused}
use Rattle.mesh_cmd.specs.declared.options.FinishRequest.{FinishRequest}
use Rattle.mesh_cmd.specs.Finish.{FinishAnswer, IsNotFinished, not_closed_line, unverified_line}

-- it is done or refused
pub answer_ends : (output : List ℕ) (request : FinishRequest) (digest : List ℕ) (mesh : Surface) (answer : Answer)
    → FinishAnswer output request digest mesh answer → (answer.status ≡ Done) ⊎ (answer.status ≡ Refused)
answer_ends output request digest mesh answer (inl writes) = inl (ap (λ (a : Answer). a.status) writes.is)
answer_ends output request digest mesh answer (inr (inl edge)) = inr (ap (λ (a : Answer). a.status) edge.is)
answer_ends output request digest mesh answer (inr (inr step)) = inr (ap (λ (a : Answer). a.status) step.is)

-- the line says of an edge that it is the first that is not balanced
pub answers_open : (options : FinishOptions) (mesh : Surface) (answer : Answer) (line : List ℕ) (from to there back : ℕ)
    → IsFirstUnbalanced mesh.faces from to there back → line ≡ not_closed_line from to there back → answer ≡ invalid 1 line
    → IsNotFinished options mesh answer
answers_open options mesh answer line from to there back first e is =
    inl (record {
      from = from;
      to = to;
      there = there;
      back = back;
      first = first;
      is = is ∙ ap (invalid 1) e;
    })

pub answers_unverified : (options : FinishOptions) (mesh : Surface) (answer : Answer) (line : List ℕ) (step : Step)
    → IsBalanced mesh.faces × IsUnverifiedStep options mesh.points mesh.faces step → line ≡ unverified_line step
    → answer ≡ invalid 1 line → IsNotFinished options mesh answer
answers_unverified options mesh answer line step why e is =
    inr (record { step = step; closed = why.0; why = why.1; is = is ∙ ap (invalid 1) e })
