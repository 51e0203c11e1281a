use Rattle.std.proofs.Common.{◌≡◌, ◌+◌, length}
use Rattle.flow_hint.proofs.survey.Survey.new.Given as goal

abbrev pub invariant-loop-arc : goal.invariant-loop-arc
invariant-loop-arc g l = record {
  degrees : length l.degree.items ≡ (g.N.FlowNetwork.numbered l.net).node_count + 1;
  sources : length l.source.items ≡ (g.N.FlowNetwork.numbered l.net).node_count;
  balances : length l.balance.items ≡ (g.N.FlowNetwork.numbered l.net).node_count;
}
