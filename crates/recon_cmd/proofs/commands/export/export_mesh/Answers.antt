use Rattle.std.proofs.Common.{IfSome, subst}
use Rattle.command_run.specs.Steps.{IsMeshReading}
use Rattle.command_run.specs.declared.meshes.MeshReading.{MeshReading}
use Rattle.recon_cmd.specs.Export.{export_names}
use Rattle.recon_cmd.proofs.ExportReplies.{exported}
use Rattle.recon_cmd.proofs.RefusedForms.{handed_not_refused}
use Rattle.recon_cmd.proofs.commands.export.export_mesh.Goals as goal

pub returns-in-Mesh-clause-outcome : goal.returns-in-Mesh-clause-outcome
returns-in-Mesh-clause-outcome g c =
    exported c.args.limit (export_names c.args.words.now) c.in-Mesh.mesh c.hand_out.result (g.H.Host.state c.args.host.now)
    (g.H.Host.state c.read_mesh_file.new.host) (g.H.Host.state c.hand_out.new.host) _ _ _
    c.requires.closed c.in-Ok.ensures.only c.in-Ok.ensures.cause
    (subst (λ (reading : MeshReading).
    IfSome (g.H.Host.state c.args.host.now).told (IsMeshReading c.args.limit c.args.words.now.mesh.now reading)) c.in-Mesh.is
    c.in-Ok.ensures.read) c.hand_out.ensures.handed

pub returns-in-Mesh-clause-refused : goal.returns-in-Mesh-clause-refused
returns-in-Mesh-clause-refused g c = λ e. absurd (handed_not_refused _ _ _ _ _ _ _ c.hand_out.ensures.handed e)
