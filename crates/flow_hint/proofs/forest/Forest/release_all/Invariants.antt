use Rattle.std.proofs.Common.{◌≡◌}
use Rattle.flow_hint.proofs.forest.Forest.release_all.Given as goal

abbrev pub invariant-loop-place : goal.invariant-loop-place
invariant-loop-place g l = l.self.preflow ≡ l.initial.self.preflow
