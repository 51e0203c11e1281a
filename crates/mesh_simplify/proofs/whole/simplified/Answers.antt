use Rattle.mesh_simplify.proofs.Unchanged.{unchanged}
use Rattle.mesh_simplify.proofs.whole.simplified.Goals as goal

pub returns-in-None : goal.returns-in-None
returns-in-None c =
    unchanged c.args.surface c.args.request.moves c.args.request.within c.args.mesh.points.items c.args.mesh.faces.items c.requires.valid c.requires.closed
