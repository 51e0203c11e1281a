use Rattle.std.proofs.Common.{◌≡◌, ◌*◌, ◌^◌, ◌≤◌}
use Rattle.flow_net.specs.Sums.{sum_below}
use Rattle.flow_net.specs.NumberedFlows.{arc_cost}
use Rattle.flow_net.proofs.sums.cut_capacity.Given as goal

abbrev pub invariant-loop-arc : goal.invariant-loop-arc
invariant-loop-arc g l = record {
  so_far : l.total ≡ sum_below l.arc (arc_cost (g.N.FlowNetwork.numbered l.net) l.labels.inside);
  small : l.total ≤ l.arc * 2 ^ 60;
}
