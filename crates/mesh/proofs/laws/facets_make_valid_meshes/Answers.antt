use Rattle.mesh.proofs.Renumbered.{mesh_valid, faces_rise}
use Rattle.mesh.proofs.laws.facets_make_valid_meshes.Goals as goal

pub returns-clause-valid : goal.returns-clause-valid
returns-clause-valid c = mesh_valid

pub returns-clause-rising : goal.returns-clause-rising
returns-clause-rising c = λ places facets o. faces_rise facets o.rising
