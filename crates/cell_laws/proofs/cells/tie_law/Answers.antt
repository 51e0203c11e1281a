use Rattle.cell_laws.proofs.TieSigns.{tie_law}
use Rattle.cell_laws.proofs.cells.tie_law.Goals as goal

pub returns : goal.returns
returns c = tie_law
