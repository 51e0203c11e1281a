use Rattle.std.proofs.Common.{subst}
use Rattle.mesh_finish.specs.Steps.{ExplainsFinish}
use Rattle.mesh_cmd.proofs.Finishing.{answers_open, answers_unverified}
use Rattle.mesh_cmd.proofs.commands.finish.reply_to_error.Goals as goal

pub returns-in_ok-line-in-NotClosed : goal.returns-in_ok-line-in-NotClosed
returns-in_ok-line-in-NotClosed c = λ options mesh why.
    let e = c.in-NotClosed.edge in
    answers_open options mesh _ c.in_ok-line-in-NotClosed.line.items e.from e.to e.there e.back
    (subst (ExplainsFinish options mesh.points mesh.faces) c.in-NotClosed.is why) c.in_ok-line-in-NotClosed.ensures
    (c.invalid_input.ensures 1)

pub returns-in_ok-line-in-Unverified : goal.returns-in_ok-line-in-Unverified
returns-in_ok-line-in-Unverified c = λ options mesh why.
    answers_unverified options mesh _ c.in_ok-line-in-Unverified.line.items c.in-Unverified.step
    (subst (ExplainsFinish options mesh.points mesh.faces) c.in-Unverified.is why) c.in_ok-line-in-Unverified.ensures
    (c.invalid_input-in-Unverified.ensures 1)
