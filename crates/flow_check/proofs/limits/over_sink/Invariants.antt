use Rattle.flow_net.specs.Firsts.{NoneBelow}
use Rattle.flow_check.specs.Verdicts.{IsOverSink}
use Rattle.flow_check.proofs.limits.over_sink.Given as goal

abbrev pub invariant-loop-node : goal.invariant-loop-node
invariant-loop-node l = NoneBelow l.node (IsOverSink l.net l.flow)
