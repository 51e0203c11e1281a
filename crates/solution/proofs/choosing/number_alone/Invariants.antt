use Rattle.std.proofs.Common.{◌≤◌}
use Rattle.solution.proofs.choosing.number_alone.Given as goal

abbrev pub invariant-loop-sight : goal.invariant-loop-sight
invariant-loop-sight l = l.count ≤ l.sight-index
