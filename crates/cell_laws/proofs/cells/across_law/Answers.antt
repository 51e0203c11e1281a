use Rattle.cell_laws.proofs.Laws.{across_law}
use Rattle.cell_laws.proofs.cells.across_law.Goals as goal

pub returns : goal.returns
returns c = across_law
