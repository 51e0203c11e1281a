use Rattle.cell_laws.proofs.RisingRows.{list_law}
use Rattle.cell_laws.proofs.stores.list_law.Goals as goal

pub returns : goal.returns
returns c = list_law
