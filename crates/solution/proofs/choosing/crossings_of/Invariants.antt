use Rattle.std.proofs.Common.{length}
use Rattle.solution.proofs.choosing.crossings_of.Given as goal

abbrev pub decreases-loop-along : goal.decreases-loop-along
decreases-loop-along l = length l.along.to_come
