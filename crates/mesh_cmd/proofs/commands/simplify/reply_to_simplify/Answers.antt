use Rattle.std.proofs.Common.{ℕ, List, IfSome, subst}
use Rattle.command_run.specs.Replies.{answer_of}
use Rattle.command_run.specs.declared.meshes.TheConstants.{FILE_LIMIT}
use Rattle.mesh_cmd.specs.Simplify.{SimplifyAnswer}
use Rattle.mesh_cmd.specs.Input.{IsInputReading, surface_of_input}
use Rattle.mesh_cmd.specs.declared.input.InputReading.{InputReading}
use Rattle.mesh_cmd.specs.declared.input.Role.TheVariants.{First}
use Rattle.mesh_cmd.proofs.Simplifying.{simplify_ends}
use Rattle.mesh_cmd.proofs.InputReplies.{file_answered, file_refused}
use Rattle.sha2.specs.Sha256.{sha256}
use Rattle.mesh_cmd.proofs.commands.simplify.reply_to_simplify.Goals as goal

pub returns-in_ok-reply_to_mesh-in-Mesh-clause-replied : goal.returns-in_ok-reply_to_mesh-in-Mesh-clause-replied
returns-in_ok-reply_to_mesh-in-Mesh-clause-replied g c =
    let words = c.args.words.now in
    let input = c.in-Mesh.input in
    let done = c.in_ok-reply_to_mesh-in-Mesh.ensures in
    file_answered ⊥ FILE_LIMIT words.mesh.now
    (λ bytes provenance mesh answer. SimplifyAnswer words.output.now words.request (sha256 bytes) mesh answer) input
    c.in_ok-reply_to_mesh-in-Mesh.field-0 (g.H.Host.state c.args.host.now)
    (simplify_ends words.output.now words.request input.digest (surface_of_input input) _ done)
    (λ bytes e.
    subst (λ (d : List ℕ). SimplifyAnswer words.output.now words.request d (surface_of_input input)
    (answer_of 1 c.in_ok-reply_to_mesh-in-Mesh.field-0)) e done)
    (subst (λ (reading : InputReading).
    IfSome (g.H.Host.state c.args.host.now).told (IsInputReading First FILE_LIMIT words.mesh.now reading)) c.in-Mesh.is
    c.in_ok-input.ensures.read)

pub returns-in-Refused-clause-replied : goal.returns-in-Refused-clause-replied
returns-in-Refused-clause-replied g c =
    let words = c.args.words.now in
    file_refused ⊥ FILE_LIMIT words.mesh.now
    (λ bytes provenance mesh answer. SimplifyAnswer words.output.now words.request (sha256 bytes) mesh answer) c.in-Refused.line
    c.invalid_input.result (g.H.Host.state c.args.host.now) (c.invalid_input.ensures 1)
    (subst (λ (reading : InputReading).
    IfSome (g.H.Host.state c.args.host.now).told (IsInputReading First FILE_LIMIT words.mesh.now reading)) c.in-Refused.is
    c.in_ok-input.ensures.read)
