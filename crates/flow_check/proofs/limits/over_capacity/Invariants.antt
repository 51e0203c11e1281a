use Rattle.flow_net.specs.Firsts.{NoneBelow}
use Rattle.flow_check.specs.Verdicts.{IsOverCapacity}
use Rattle.flow_check.proofs.limits.over_capacity.Given as goal

abbrev pub invariant-loop-place : goal.invariant-loop-place
invariant-loop-place l = NoneBelow l.place (IsOverCapacity l.net l.flow)
