use Rattle.std.proofs.Common.{◌≡◌, length}
use Rattle.flow_hint.proofs.refund.on_arcs.Given as goal

abbrev pub invariant-loop-arc : goal.invariant-loop-arc
invariant-loop-arc g l = record {
  amounts : length l.amounts.items ≡ (g.N.FlowNetwork.numbered l.net).arc_count;
  source : length l.source.items ≡ (g.N.FlowNetwork.numbered l.net).node_count;
}
