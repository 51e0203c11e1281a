use Rattle.std.proofs.Common.{◌≡◌}
use Rattle.flow_hint.proofs.sweep.Sweep.search_all.Given as goal

abbrev pub invariant-loop-node : goal.invariant-loop-node
invariant-loop-node g l = l.self.preflow.wiring ≡ l.initial.self.preflow.wiring
