use Rattle.std.proofs.Common.{◌≡◌, ◌<◌}
use Rattle.flow_hint.proofs.sweep.Sweep.cut_to.Given as goal

abbrev pub invariant-loop : goal.invariant-loop
invariant-loop g l = record {
  preflow : l.self.preflow ≡ l.initial.self.preflow;
  at_in : l.at < l.self.preflow.wiring.nodes;
}
