use Rattle.mesh_join.proofs.Theorems.{unique_law}
use Rattle.mesh_join.proofs.laws.joins_are_unique.Goals as goal

pub returns : goal.returns
returns c = unique_law
