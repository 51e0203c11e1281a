use Rattle.cell_laws.proofs.SightLaws.{scanner_law}
use Rattle.cell_laws.proofs.walks.scanner_law.Goals as goal

pub returns : goal.returns
returns c = scanner_law
