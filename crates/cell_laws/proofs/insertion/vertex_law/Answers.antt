use Rattle.cell_laws.proofs.Laws.{vertex_law}
use Rattle.cell_laws.proofs.insertion.vertex_law.Goals as goal

pub returns : goal.returns
returns c = vertex_law
