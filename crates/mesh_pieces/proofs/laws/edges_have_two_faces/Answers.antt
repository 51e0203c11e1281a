use Rattle.mesh_pieces.proofs.Edges.{two_faces}
use Rattle.mesh_pieces.proofs.laws.edges_have_two_faces.Goals as goal

pub returns : goal.returns
returns c = two_faces
