use Rattle.cell_laws.proofs.Scanners.{spread_law}
use Rattle.cell_laws.proofs.walks.spread_law.Goals as goal

pub returns : goal.returns
returns c = spread_law
