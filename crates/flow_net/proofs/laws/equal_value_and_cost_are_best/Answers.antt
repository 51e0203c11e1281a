use Rattle.flow_net.specs.Flows.{numbered_of}
use Rattle.flow_net.proofs.Duality.{equal_is_best}
use Rattle.flow_net.proofs.laws.equal_value_and_cost_are_best.Goals as goal

pub returns : goal.returns
returns c net = equal_is_best (numbered_of net)
