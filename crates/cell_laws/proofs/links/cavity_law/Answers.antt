use Rattle.cell_laws.proofs.Laws.{cavity_law}
use Rattle.cell_laws.proofs.links.cavity_law.Goals as goal

pub returns : goal.returns
returns c = cavity_law
