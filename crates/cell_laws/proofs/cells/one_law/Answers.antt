use Rattle.cell_laws.proofs.Laws.{one_law}
use Rattle.cell_laws.proofs.cells.one_law.Goals as goal

pub returns : goal.returns
returns c = one_law
