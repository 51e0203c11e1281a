use Rattle.std.proofs.Common.{◌<◌}
use Rattle.flow_hint.proofs.sweep.Sweep.most_around.Given as goal

abbrev pub invariant-loop : goal.invariant-loop
invariant-loop g l = l.at < l.self.preflow.wiring.nodes
