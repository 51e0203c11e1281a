use Rattle.flow_net.specs.Firsts.{NoneBelow}
use Rattle.flow_check.specs.Verdicts.{IsFixedInside}
use Rattle.flow_check.proofs.limits.fixed_inside.Given as goal

abbrev pub invariant-loop-node : goal.invariant-loop-node
invariant-loop-node l = NoneBelow l.node (IsFixedInside l.net l.labels)
