use Rattle.cell_laws.proofs.Laws.{envelope_law}
use Rattle.cell_laws.proofs.cells.envelope_law.Goals as goal

pub returns : goal.returns
returns c = envelope_law
