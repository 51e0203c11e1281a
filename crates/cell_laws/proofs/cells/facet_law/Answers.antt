use Rattle.cell_laws.proofs.OneFacet.{facet_law}
use Rattle.cell_laws.proofs.cells.facet_law.Goals as goal

pub returns : goal.returns
returns c = facet_law
