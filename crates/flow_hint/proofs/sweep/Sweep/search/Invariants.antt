use Rattle.std.proofs.Common.{◌≡◌}
use Rattle.flow_hint.proofs.sweep.Sweep.search.Given as goal

abbrev pub invariant-loop : goal.invariant-loop
invariant-loop g l = l.self.preflow.wiring ≡ l.initial.self.preflow.wiring
