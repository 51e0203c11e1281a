use Rattle.std.proofs.Common.{◌≡◌, ◌<◌}
use Rattle.flow_hint.proofs.sweep.Sweep.cancel.Given as goal

abbrev pub invariant-loop : goal.invariant-loop
invariant-loop g l = record {
  wiring : l.self.preflow.wiring ≡ l.initial.self.preflow.wiring;
  at_in : l.at < l.self.preflow.wiring.nodes;
  cut_in : l.cut < l.self.preflow.wiring.nodes;
}
