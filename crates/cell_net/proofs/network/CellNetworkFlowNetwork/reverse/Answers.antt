use Rattle.std.proofs.Common.{arith}
use Rattle.cell_net.proofs.Facts.{paired_is}
use Rattle.cell_net.proofs.network.CellNetworkFlowNetwork.reverse.Goals as goal

pub returns-clause-there : goal.returns-clause-there
returns-clause-there c = grind (arith, paired_is)
