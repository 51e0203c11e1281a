use Rattle.flow_net.specs.Firsts.{NoneBelow}
use Rattle.flow_check.specs.Verdicts.{IsUnbalanced}
use Rattle.flow_check.proofs.balance.unbalanced.Given as goal

abbrev pub invariant-loop-node : goal.invariant-loop-node
invariant-loop-node l = NoneBelow l.node (IsUnbalanced l.net l.flow)
