use Rattle.cell_laws.proofs.SightLaws.{step_law}
use Rattle.cell_laws.proofs.walks.step_law.Goals as goal

pub returns : goal.returns
returns c = step_law
