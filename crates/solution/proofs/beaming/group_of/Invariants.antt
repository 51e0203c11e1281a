use Rattle.std.proofs.Common.{◌<◌, ◌≤◌, ◌-◌, All, length, take}
use Rattle.solution.specs.LongSights.{IsOfScanner}
use Rattle.solution.proofs.beaming.group_of.Given as goal

abbrev pub invariant-loop-count : goal.invariant-loop-count
invariant-loop-count l = record {
  some : 0 < l.count;
  within : l.count ≤ length l.sights;
  same : All (IsOfScanner l.scanner) (take l.count l.sights);
}

abbrev pub decreases-loop-count : goal.decreases-loop-count
decreases-loop-count l = length l.sights - l.count
