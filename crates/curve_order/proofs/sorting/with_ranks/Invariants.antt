use Rattle.curve_order.specs.Ranks.{AreRanked}
use Rattle.curve_order.proofs.sorting.with_ranks.Given as goal

abbrev pub invariant-loop-i : goal.invariant-loop-i
invariant-loop-i l = AreRanked l.points l.list.items l.i
