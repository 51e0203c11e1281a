use Rattle.std.proofs.Common.{◌∙◌, ap, inr, subst, sym, List}
use Rattle.mesh.specs.declared.mesh.Mesh.{Mesh}
use Rattle.mesh_join.specs.Refusals.{IsRefusedJoin}
use Rattle.mesh_join.specs.declared.owners.Core.{Core}
use Rattle.command_run.specs.Answers.{invalid}
use Rattle.join_cmd.specs.Join.{join_reads}
use Rattle.join_cmd.proofs.JoinReplies.{rejected_ends}
use Rattle.join_cmd.proofs.reply.reply_to_meshes.Goals as goal

pub returns-in_ok-line-in-Err-clause-answers : goal.returns-in_ok-line-in-Err-clause-answers
returns-in_ok-line-in-Err-clause-answers c =
    inr (
      c.in-Err.why,
      subst (λ (cores : List Core). IsRefusedJoin cores c.args.meshes.items c.in-Err.why) c.in_ok-cores.ensures
          (subst (λ (meshes : List Mesh). IsRefusedJoin c.in_ok-cores.cores.items meshes c.in-Err.why) c.deref.ensures.value
          (rw c.in-Err.is at c.in_ok-joined.ensures.refused)),
      c.invalid_input.ensures join_reads ∙ ap (invalid join_reads) (sym c.in_ok-line-in-Err.ensures),
    )

pub returns-in_ok-line-in-Err-clause-ended : goal.returns-in_ok-line-in-Err-clause-ended
returns-in_ok-line-in-Err-clause-ended c =
    rejected_ends join_reads c.in_ok-line-in-Err.line.items c.invalid_input.result (c.invalid_input.ensures join_reads)
