use Rattle.cell_net.proofs.Stored.{stored_cells_law}
use Rattle.cell_net.proofs.laws.stored_cells_law.Goals as goal

pub returns : goal.returns
returns c = stored_cells_law
