use Rattle.std.proofs.Common.{length}
use Rattle.solution.proofs.Flags.{AreFlagged}
use Rattle.solution.proofs.fixing.corner_flags.Given as goal

abbrev pub invariant-loop-id : goal.invariant-loop-id
invariant-loop-id l = AreFlagged l.t.slots l.cells l.flags.items

abbrev pub decreases-loop-id : goal.decreases-loop-id
decreases-loop-id l = length l.cells
