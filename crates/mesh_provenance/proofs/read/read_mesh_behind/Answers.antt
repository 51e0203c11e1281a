use Rattle.std.proofs.Common.{sym, ◌∙◌}
use Rattle.mesh_provenance.proofs.FileCodes.{rest_of_printed}
use Rattle.mesh_provenance.proofs.read.read_mesh_behind.Goals as goal

pub returns-in-Ok-read_mesh-clause-ok : goal.returns-in-Ok-read_mesh-clause-ok
returns-in-Ok-read_mesh-clause-ok c = (
  c.in-Ok-read_mesh.ensures.ok.0,
  rest_of_printed c.args.text.now c.in-Ok-read_mesh.mesh.points.items c.in-Ok-read_mesh.mesh.faces.items
      (sym c.in-Ok.ensures ∙ (sym c.deref.ensures.value ∙ c.in-Ok-read_mesh.ensures.ok.1)),
)
