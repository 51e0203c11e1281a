use Rattle.cell_laws.proofs.Closedness.{closed_law}
use Rattle.cell_laws.proofs.links.closed_law.Goals as goal

pub returns : goal.returns
returns c = closed_law
