use Rattle.mesh_measures.proofs.Suspects.{edges_counted}
use Rattle.mesh_measures.proofs.manifolds.count_edges.Goals as goal

pub returns : goal.returns
returns c = edges_counted c.args.faces.now c.args.sides.now c.requires.sides c.requires.each c.count_odd_sides.result c.count_odd_sides.ensures
