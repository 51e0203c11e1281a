use Rattle.mesh_flips.proofs.Kept.{flips_keep_count, flips_keep_triangles}
use Rattle.mesh_flips.proofs.laws.flips_keep_faces.Goals as goal

pub returns-clause-count : goal.returns-clause-count
returns-clause-count c = flips_keep_count

pub returns-clause-triangles : goal.returns-clause-triangles
returns-clause-triangles c = flips_keep_triangles
