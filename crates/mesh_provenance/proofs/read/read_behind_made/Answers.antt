use Rattle.std.proofs.Common.{◌≡◌, ◌⊎◌}
use Rattle.line_text.proofs.Rows.{IfErr-holds}
use Rattle.mesh_ply.specs.declared.refusal.MeshRefusal.TheVariants.{NoMemory}
use Rattle.mesh_provenance.specs.Refusals.{AtOrigin}
use Rattle.mesh_provenance.proofs.FileRefused.{behind_refused}
use Rattle.mesh_provenance.proofs.read.read_behind_made.Goals as goal

pub returns-in_err-mesh-clause-refused : goal.returns-in_err-mesh-clause-refused
returns-in_err-mesh-clause-refused c =
    IfErr-holds c.from_residual.result c.in_err-mesh.field-0.0
    (λ r. (r ≡ NoMemory) ⊎ AtOrigin c.args.text.now r) c.from_residual.ensures.1
    (behind_refused c.args.text.now _ _ c.in_err-mesh.field-0.0 c.in-Ok.ensures.ok.0 c.in-Ok.ensures.ok.1
    c.in_err-mesh.ensures.refused)
