use Rattle.cell_laws.proofs.Stored.{all_law}
use Rattle.cell_laws.proofs.stores.all_law.Goals as goal

pub returns : goal.returns
returns c = all_law
