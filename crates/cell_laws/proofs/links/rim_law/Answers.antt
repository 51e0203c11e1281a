use Rattle.cell_laws.proofs.Laws.{rim_law}
use Rattle.cell_laws.proofs.links.rim_law.Goals as goal

pub returns : goal.returns
returns c = rim_law
