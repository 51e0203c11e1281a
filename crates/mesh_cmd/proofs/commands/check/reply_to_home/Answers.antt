use Rattle.std.proofs.Common.{IfSome, subst}
use Rattle.command_run.specs.Answers.{MayEnd, Task}
use Rattle.command_run.specs.Steps.{IsAnswered}
use Rattle.command_run.specs.declared.meshes.TheConstants.{FILE_LIMIT}
use Rattle.mesh_cmd.specs.Check.{ConfirmAnswer, confirm_names, confirm_task}
use Rattle.mesh_cmd.specs.Input.{IsInputReading, surface_of_input}
use Rattle.mesh_cmd.specs.declared.input.InputReading.{InputReading}
use Rattle.mesh_cmd.specs.declared.input.Role.TheVariants.{Finished}
use Rattle.mesh_cmd.proofs.Checking.{check_ends, done_or_no}
use Rattle.mesh_cmd.proofs.InputReplies.{reply_answered, reply_refused}
use Rattle.mesh_cmd.proofs.commands.check.reply_to_home.Goals as goal

pub returns-in_ok-reply_to_finished-in-Mesh-clause-replied : goal.returns-in_ok-reply_to_finished-in-Mesh-clause-replied
returns-in_ok-reply_to_finished-in-Mesh-clause-replied g c =
    let task : Task = confirm_task (confirm_names c.args.words.now) in
    let home = c.args.home.now in
    let finished = c.in-Mesh.finished in
    let reply = c.in_ok-reply_to_finished-in-Mesh.field-0 in
    let answers = c.in_ok-reply_to_finished-in-Mesh.ensures in
    let ends = check_ends home.digest (surface_of_input home) finished.provenance (surface_of_input finished) _ answers in
    reply_answered task Finished FILE_LIMIT c.args.words.now.finished.now
    (λ bytes p out. ConfirmAnswer home.digest (surface_of_input home) p out) finished reply (g.H.Host.state c.args.host.now)
    (done_or_no (MayEnd task) reply.status tt tt ends.1) (done_or_no IsAnswered reply.status tt tt ends.1)
    (λ bytes e. answers)
    (subst (λ (reading : InputReading).
    IfSome (g.H.Host.state c.args.host.now).told (IsInputReading Finished FILE_LIMIT c.args.words.now.finished.now reading))
    c.in-Mesh.is c.in_ok-finished.ensures.read)

pub returns-in-Refused-clause-replied : goal.returns-in-Refused-clause-replied
returns-in-Refused-clause-replied g c =
    let home = c.args.home.now in
    reply_refused (confirm_task (confirm_names c.args.words.now)) Finished FILE_LIMIT c.args.words.now.finished.now
    (λ files bytes p out. ConfirmAnswer home.digest (surface_of_input home) p out) c.in-Refused.line
    c.invalid_input.result (g.H.Host.state c.args.host.now) tt (c.invalid_input.ensures 2)
    (subst (λ (reading : InputReading).
    IfSome (g.H.Host.state c.args.host.now).told (IsInputReading Finished FILE_LIMIT c.args.words.now.finished.now reading))
    c.in-Refused.is c.in_ok-finished.ensures.read)
