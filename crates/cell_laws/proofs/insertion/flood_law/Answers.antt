use Rattle.cell_laws.proofs.Laws.{flood_law}
use Rattle.cell_laws.proofs.insertion.flood_law.Goals as goal

pub returns : goal.returns
returns c = flood_law
