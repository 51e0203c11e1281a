use Rattle.mesh_edges.proofs.Paired.{paired_closed}
use Rattle.mesh_edges.proofs.laws.paired_meshes_are_closed.Goals as goal

pub returns : goal.returns
returns c = paired_closed
