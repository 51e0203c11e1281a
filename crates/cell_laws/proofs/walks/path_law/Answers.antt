use Rattle.cell_laws.proofs.SightPaths.{path_law}
use Rattle.cell_laws.proofs.walks.path_law.Goals as goal

pub returns : goal.returns
returns c = path_law
