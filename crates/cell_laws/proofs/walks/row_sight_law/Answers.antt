use Rattle.cell_laws.proofs.RowSights.{row_sight_law}
use Rattle.cell_laws.proofs.walks.row_sight_law.Goals as goal

pub returns : goal.returns
returns c = row_sight_law
