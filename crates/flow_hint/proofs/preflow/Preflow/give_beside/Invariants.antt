use Rattle.std.proofs.Common.{◌≡◌}
use Rattle.flow_hint.proofs.preflow.Preflow.give_beside.Given as goal

abbrev pub invariant-loop-node : goal.invariant-loop-node
invariant-loop-node g l = l.self.wiring ≡ l.initial.self.wiring
