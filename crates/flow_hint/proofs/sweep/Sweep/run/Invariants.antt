use Rattle.std.proofs.Common.{◌≡◌}
use Rattle.flow_hint.proofs.sweep.Sweep.run.Given as goal

abbrev pub invariant-loop-done : goal.invariant-loop-done
invariant-loop-done g l = l.self.preflow.wiring ≡ l.initial.self.preflow.wiring
