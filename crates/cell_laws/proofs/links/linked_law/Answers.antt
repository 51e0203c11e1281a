use Rattle.cell_laws.proofs.Laws.{linked_law}
use Rattle.cell_laws.proofs.links.linked_law.Goals as goal

pub returns : goal.returns
returns c = linked_law
