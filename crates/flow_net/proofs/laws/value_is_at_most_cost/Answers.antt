use Rattle.flow_net.specs.Flows.{numbered_of}
use Rattle.flow_net.specs.Nets.{flag_at}
use Rattle.flow_net.proofs.Duality.{value_le_cost}
use Rattle.flow_net.proofs.laws.value_is_at_most_cost.Goals as goal

pub returns : goal.returns
returns c net flow labels valid admissible = value_le_cost (numbered_of net) flow (flag_at labels.inside) valid admissible.labelled
