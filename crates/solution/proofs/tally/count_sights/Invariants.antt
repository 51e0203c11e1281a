use Rattle.std.proofs.Common.{length, ◌-◌}
use Rattle.solution.proofs.Tallies.{IsTally}
use Rattle.solution.proofs.tally.count_sights.Given as goal

abbrev pub invariant-loop-k : goal.invariant-loop-k
invariant-loop-k g l = IsTally l.located.t.now l.located.scanners.now l.sights l.k l.crossed.items l.behind.items

abbrev pub decreases-loop-k : goal.decreases-loop-k
decreases-loop-k g l = length l.sights - l.k
