use Rattle.std.proofs.Common.{◌≡◌}
use Rattle.flow_hint.proofs.sweep.Sweep.hand_on.Given as goal

abbrev pub invariant-loop-place : goal.invariant-loop-place
invariant-loop-place g l = l.self.preflow.wiring ≡ l.initial.self.preflow.wiring
