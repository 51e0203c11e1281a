use Rattle.mesh_laws.proofs.FinishedRuns.{finished_is_finished}
use Rattle.mesh_laws.proofs.a_finished_mesh_is_finished_again.Goals as goal

pub returns : goal.returns
returns c = finished_is_finished
