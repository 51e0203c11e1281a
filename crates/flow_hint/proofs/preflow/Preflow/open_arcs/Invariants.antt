use Rattle.std.proofs.Common.{◌≡◌}
use Rattle.flow_hint.proofs.preflow.Preflow.open_arcs.Given as goal

abbrev pub invariant-loop-arc : goal.invariant-loop-arc
invariant-loop-arc g l = l.self.wiring ≡ l.initial.self.wiring
