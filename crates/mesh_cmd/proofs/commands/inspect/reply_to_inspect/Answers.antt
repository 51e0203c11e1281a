use Rattle.std.proofs.Common.{IfSome, inl, subst, ap}
use Rattle.command_run.specs.Answers.{Answer}
use Rattle.command_run.specs.declared.meshes.TheConstants.{FILE_LIMIT}
use Rattle.mesh_cmd.specs.Input.{IsInputReading}
use Rattle.mesh_cmd.specs.Inspect.{IsInspection}
use Rattle.mesh_cmd.specs.declared.input.InputReading.{InputReading}
use Rattle.mesh_cmd.specs.declared.input.Role.TheVariants.{First}
use Rattle.mesh_cmd.proofs.InputReplies.{file_answered, file_refused}
use Rattle.mesh_cmd.proofs.commands.inspect.reply_to_inspect.Goals as goal

pub returns-in_ok-reply_to_measured-in-Mesh-clause-replied : goal.returns-in_ok-reply_to_measured-in-Mesh-clause-replied
returns-in_ok-reply_to_measured-in-Mesh-clause-replied g c =
    let name = c.args.words.now.mesh.now in
    file_answered ⊥ FILE_LIMIT name (λ bytes provenance mesh answer. IsInspection mesh answer) c.in-Mesh.input
    c.in_ok-reply_to_measured-in-Mesh.field-0 (g.H.Host.state c.args.host.now)
    (inl (ap (λ (a : Answer). a.status) c.in_ok-reply_to_measured-in-Mesh.ensures.is))
    (λ bytes e. c.in_ok-reply_to_measured-in-Mesh.ensures)
    (subst (λ (reading : InputReading). IfSome (g.H.Host.state c.args.host.now).told (IsInputReading First FILE_LIMIT name reading))
    c.in-Mesh.is c.in_ok-input.ensures.read)

pub returns-in-Refused-clause-replied : goal.returns-in-Refused-clause-replied
returns-in-Refused-clause-replied g c =
    let name = c.args.words.now.mesh.now in
    file_refused ⊥ FILE_LIMIT name (λ bytes provenance mesh answer. IsInspection mesh answer) c.in-Refused.line
    c.invalid_input.result (g.H.Host.state c.args.host.now) (c.invalid_input.ensures 1)
    (subst (λ (reading : InputReading). IfSome (g.H.Host.state c.args.host.now).told (IsInputReading First FILE_LIMIT name reading))
    c.in-Refused.is c.in_ok-input.ensures.read)
