use Rattle.cell_net.proofs.StoreLaws as stored
use Rattle.cell_net.proofs.laws.store_network_law.Goals as goal

pub returns : goal.returns
returns c = stored.store_network_law
