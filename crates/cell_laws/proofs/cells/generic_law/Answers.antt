use Rattle.cell_laws.proofs.Laws.{generic_law}
use Rattle.cell_laws.proofs.cells.generic_law.Goals as goal

pub returns : goal.returns
returns c = generic_law
