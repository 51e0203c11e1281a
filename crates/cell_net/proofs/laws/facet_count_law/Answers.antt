use Rattle.cell_net.proofs.CellCounts.{facet_count_law}
use Rattle.cell_net.proofs.laws.facet_count_law.Goals as goal

pub returns : goal.returns
returns c = facet_count_law
