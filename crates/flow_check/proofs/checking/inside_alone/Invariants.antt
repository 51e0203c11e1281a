use Rattle.flow_net.specs.Firsts.{NoneBelow}
use Rattle.flow_check.specs.Verdicts.{IsInsideAlone}
use Rattle.flow_check.proofs.checking.inside_alone.Given as goal

abbrev pub invariant-loop-node : goal.invariant-loop-node
invariant-loop-node l = NoneBelow l.node (IsInsideAlone l.labels l.other)
