use Rattle.std.proofs.Common.{IfSome, subst}
use Rattle.command_run.specs.Answers.{MayEnd, Task}
use Rattle.command_run.specs.Steps.{IsAnswered}
use Rattle.command_run.specs.declared.meshes.TheConstants.{FILE_LIMIT}
use Rattle.command_run.proofs.MeshReplies.{done_or_refused}
use Rattle.mesh_cmd.specs.Moving.{MoveNames, move_answers, move_names, move_task}
use Rattle.mesh_cmd.specs.Input.{IsInputReading, surface_of_input}
use Rattle.mesh_cmd.specs.declared.input.InputReading.{InputReading}
use Rattle.mesh_cmd.specs.declared.input.Role.TheVariants.{Targets}
use Rattle.mesh_cmd.specs.declared.options.FinishRequest.{FinishRequest}
use Rattle.mesh_cmd.proofs.Moving.{move_ends}
use Rattle.mesh_cmd.proofs.InputReplies.{reply_answered, reply_refused}
use Rattle.mesh_cmd.proofs.commands.moving.reply_to_home.Goals as goal

pub returns-in_ok-reply_to_targets-in-Mesh-clause-replied : goal.returns-in_ok-reply_to_targets-in-Mesh-clause-replied
returns-in_ok-reply_to_targets-in-Mesh-clause-replied g c =
    let names : MoveNames = move_names c.args.words.now in
    let request : FinishRequest = c.args.words.now.request in
    let task : Task = move_task names request in
    let home = c.args.home in
    let targets = c.in-Mesh.targets in
    let reply = c.in_ok-reply_to_targets-in-Mesh.field-0 in
    let answers = c.in_ok-reply_to_targets-in-Mesh.ensures in
    let ends = move_ends names.output request home.digest (surface_of_input home) (surface_of_input targets) _ answers in
    reply_answered task Targets FILE_LIMIT names.targets (move_answers names.output request home.digest (surface_of_input home))
    targets reply (g.H.Host.state c.args.host.now) (done_or_refused (MayEnd task) reply.status tt tt ends.1)
    (done_or_refused IsAnswered reply.status tt tt ends.1) (λ bytes e. answers)
    (subst (λ (reading : InputReading).
    IfSome (g.H.Host.state c.args.host.now).told (IsInputReading Targets FILE_LIMIT names.targets reading)) c.in-Mesh.is
    c.in_ok-targets.ensures.read)

pub returns-in-Refused-clause-replied : goal.returns-in-Refused-clause-replied
returns-in-Refused-clause-replied g c =
    let names : MoveNames = move_names c.args.words.now in
    let request : FinishRequest = c.args.words.now.request in
    let home = c.args.home in
    reply_refused (move_task names request) Targets FILE_LIMIT names.targets
    (λ files. move_answers names.output request home.digest (surface_of_input home)) c.in-Refused.line c.invalid_input.result
    (g.H.Host.state c.args.host.now) tt (c.invalid_input.ensures 2)
    (subst (λ (reading : InputReading).
    IfSome (g.H.Host.state c.args.host.now).told (IsInputReading Targets FILE_LIMIT names.targets reading)) c.in-Refused.is
    c.in_ok-targets.ensures.read)
