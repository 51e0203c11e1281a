use Rattle.cell_laws.proofs.Identities.{three_terms}
use Rattle.cell_laws.proofs.cells.three_terms_law.Goals as goal

pub returns : goal.returns
returns c = three_terms
