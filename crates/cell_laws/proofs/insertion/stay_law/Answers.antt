use Rattle.cell_laws.proofs.Laws.{stay_law}
use Rattle.cell_laws.proofs.insertion.stay_law.Goals as goal

pub returns : goal.returns
returns c = stay_law
