use Rattle.cell_laws.proofs.Stored.{stored_law}
use Rattle.cell_laws.proofs.stores.stored_law.Goals as goal

pub returns : goal.returns
returns c = stored_law
