use Rattle.cell_laws.proofs.Identities.{three_lifts}
use Rattle.cell_laws.proofs.cells.three_lifts_law.Goals as goal

pub returns : goal.returns
returns c = three_lifts
