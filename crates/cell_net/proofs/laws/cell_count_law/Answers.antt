use Rattle.cell_net.proofs.CellCounts.{cell_count_law}
use Rattle.cell_net.proofs.laws.cell_count_law.Goals as goal

pub returns : goal.returns
returns c = cell_count_law
