use Rattle.std.proofs.Common.{length}
use Rattle.mesh_edges.proofs.Paired.{paired_closed}
use Rattle.mesh_finish.proofs.steps.split.Goals as goal

pub returns-then-not-manifold-clause-closed : goal.returns-then-not-manifold-clause-closed
returns-then-not-manifold-clause-closed c =
    let mesh = c.args.kept.mesh in
    paired_closed (length mesh.points.items) mesh.faces.items c.args.kept.twins.items c.requires.valid.each c.requires.paired
