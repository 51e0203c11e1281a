use Rattle.cell_laws.proofs.Laws.{found_law}
use Rattle.cell_laws.proofs.links.found_law.Goals as goal

pub returns : goal.returns
returns c = found_law
