-- The answers of `simplify`: how they end, and what is written.
use Rattle.std.proofs.Common.{ℕ, ◌≡◌, ◌⊎◌, inl, inr, ap, ◌∙◌, List}
use Rattle.mesh.specs.Meshes.{Surface}
use Rattle.mesh_edges.specs.Edges.{IsFirstUnbalanced}
use Rattle.command_run.specs.Answers.{Answer, invalid}
use Rattle.command_run.specs.declared.status.Status.TheVariants.{Done, Refused}
use Rattle.mesh_cmd.specs.declared.simplify_request.SimplifyRequest.{SimplifyRequest}
use Rattle.mesh_cmd.specs.Finish.{IsNotClosed, not_closed_line}
use Rattle.mesh_cmd.specs.Simplify.{SimplifyAnswer}

-- it is done or refused
pub simplify_ends : (output : List ℕ) (request : SimplifyRequest) (digest : List ℕ) (mesh : Surface) (answer : Answer)
    → SimplifyAnswer output request digest mesh answer → (answer.status ≡ Done) ⊎ (answer.status ≡ Refused)
simplify_ends output request digest mesh answer (inl writes) = inl (ap (λ (a : Answer). a.status) writes.is)
simplify_ends output request digest mesh answer (inr edge) = inr (ap (λ (a : Answer). a.status) edge.is)

-- the line says of an edge that it is the first that is not balanced
pub says_open : (mesh : Surface) (answer : Answer) (line : List ℕ) (from to there back : ℕ)
    → IsFirstUnbalanced mesh.faces from to there back → line ≡ not_closed_line from to there back → answer ≡ invalid 1 line
    → IsNotClosed mesh answer
says_open mesh answer line from to there back first e is =
    record {
      from = from;
      to = to;
      there = there;
      back = back;
      first = first;
      is = is ∙ ap (invalid 1) e;
    }
