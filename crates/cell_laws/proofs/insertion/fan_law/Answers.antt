use Rattle.cell_laws.proofs.Laws.{fan_law}
use Rattle.cell_laws.proofs.insertion.fan_law.Goals as goal

pub returns : goal.returns
returns c = fan_law
