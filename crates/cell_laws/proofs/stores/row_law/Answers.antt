use Rattle.cell_laws.proofs.RisingRows.{row_law}
use Rattle.cell_laws.proofs.stores.row_law.Goals as goal

pub returns : goal.returns
returns c = row_law
