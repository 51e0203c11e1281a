use Rattle.std.proofs.Common.{IfSome, ℤ, subst, arith, to_z-of_z, w32}
use Rattle.std.proofs.lemmas.Int.{fits_signed_from_abs}
use Rattle.solution.specs.Solutions.{surface_of}
use Rattle.command_run.specs.Replies.{answer_of}
use Rattle.command_run.specs.Steps.{IsMeshReading}
use Rattle.command_run.specs.declared.meshes.MeshReading.{MeshReading}
use Rattle.command_run.proofs.MeshReplies.{mesh_answered, mesh_refused}
use Rattle.recon_cmd.specs.Slice.{SliceAnswer}
use Rattle.recon_cmd.proofs.SliceReplies.{slice_status}
use Rattle.recon_cmd.proofs.commands.slice.reply_to_slice.Goals as goal

pub returns-in_ok-reply_to_mesh-in-Mesh-clause-replied : goal.returns-in_ok-reply_to_mesh-in-Mesh-clause-replied
returns-in_ok-reply_to_mesh-in-Mesh-clause-replied g c =
    let words = c.args.words.now in
    let reply = c.in_ok-reply_to_mesh-in-Mesh.field-0 in
    let answers : SliceAnswer words.output.now words.height (surface_of c.in-Mesh.mesh) (answer_of 1 reply) =
    subst (λ (height : ℤ). SliceAnswer words.output.now height (surface_of c.in-Mesh.mesh) (answer_of 1 reply))
    (to_z-of_z (fits_signed_from_abs w32 words.height (omega (arith, words.within)))) c.in_ok-reply_to_mesh-in-Mesh.ensures in
    mesh_answered ⊥ c.args.limit words.mesh.now (SliceAnswer words.output.now words.height) c.in-Mesh.mesh reply
    (g.H.Host.state c.args.host.now)
    (slice_status words.output.now words.height (surface_of c.in-Mesh.mesh) (answer_of 1 reply) answers) answers
    (subst (λ (reading : MeshReading).
    IfSome (g.H.Host.state c.args.host.now).told (IsMeshReading c.args.limit words.mesh.now reading)) c.in-Mesh.is
    c.in_ok-mesh.ensures.read)

pub returns-in-Refused-clause-replied : goal.returns-in-Refused-clause-replied
returns-in-Refused-clause-replied g c =
    let words = c.args.words.now in
    mesh_refused ⊥ c.args.limit words.mesh.now (SliceAnswer words.output.now words.height) c.in-Refused.line
    c.invalid_input.result (g.H.Host.state c.args.host.now) (c.invalid_input.ensures 1)
    (subst (λ (reading : MeshReading).
    IfSome (g.H.Host.state c.args.host.now).told (IsMeshReading c.args.limit words.mesh.now reading)) c.in-Refused.is
    c.in_ok-mesh.ensures.read)
