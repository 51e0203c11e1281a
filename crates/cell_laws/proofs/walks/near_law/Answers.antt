use Rattle.cell_laws.proofs.Scanners.{near_law}
use Rattle.cell_laws.proofs.walks.near_law.Goals as goal

pub returns : goal.returns
returns c = near_law
