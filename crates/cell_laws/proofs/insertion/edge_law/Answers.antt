use Rattle.cell_laws.proofs.Laws.{edge_law}
use Rattle.cell_laws.proofs.insertion.edge_law.Goals as goal

pub returns : goal.returns
returns c = edge_law
