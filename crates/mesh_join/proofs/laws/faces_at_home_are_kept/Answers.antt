use Rattle.mesh_join.proofs.Theorems.{kept_law}
use Rattle.mesh_join.proofs.laws.faces_at_home_are_kept.Goals as goal

pub returns : goal.returns
returns c = kept_law
