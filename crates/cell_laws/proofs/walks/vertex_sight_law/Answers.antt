use Rattle.cell_laws.proofs.SightLaws.{vertex_sight_law}
use Rattle.cell_laws.proofs.walks.vertex_sight_law.Goals as goal

pub returns : goal.returns
returns c = vertex_sight_law
