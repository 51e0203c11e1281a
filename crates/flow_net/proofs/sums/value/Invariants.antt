use Rattle.std.proofs.Common.{◌≡◌, ◌*◌, ◌^◌, ◌≤◌}
use Rattle.flow_net.specs.Sums.{sum_below}
use Rattle.flow_net.specs.NumberedFlows.{node_value}
use Rattle.flow_net.proofs.sums.value.Given as goal

abbrev pub invariant-loop-node : goal.invariant-loop-node
invariant-loop-node g l = record {
  so_far : l.total ≡ sum_below l.node (node_value (g.N.FlowNetwork.numbered l.net) l.flow.on_sink);
  small : l.total ≤ l.node * 2 ^ 64;
}
