use Rattle.std.proofs.Common.{inl, refl}
use Rattle.solution.specs.Solutions.{surface_of}
use Rattle.recon_cmd.proofs.ExportReplies.{fronts_of_all}
use Rattle.recon_cmd.proofs.commands.export.hand_out.Goals as goal

pub returns-in-Err-line_of_export-clause-handed : goal.returns-in-Err-line_of_export-clause-handed
returns-in-Err-line_of_export-clause-handed g c =
    inl (refl, fronts_of_all (surface_of c.args.mesh.now) _ c.in-Ok.ensures.all, refl)
