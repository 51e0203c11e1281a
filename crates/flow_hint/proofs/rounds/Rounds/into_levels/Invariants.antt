use Rattle.std.proofs.Common.{◌≡◌, length}
use Rattle.flow_hint.proofs.rounds.Rounds.into_levels.Given as goal

abbrev pub invariant-loop-node : goal.invariant-loop-node
invariant-loop-node g l = length l.is_found.items ≡ length l.level.items
