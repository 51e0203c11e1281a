use Rattle.cell_laws.proofs.SightLaws.{sight_law}
use Rattle.cell_laws.proofs.walks.sight_law.Goals as goal

pub returns : goal.returns
returns c = sight_law
