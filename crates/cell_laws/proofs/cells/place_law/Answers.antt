use Rattle.cell_laws.proofs.SomeCell.{place_law}
use Rattle.cell_laws.proofs.cells.place_law.Goals as goal

pub returns : goal.returns
returns c = place_law
