use Rattle.std.proofs.Common.{◌≡◌, map, take}
use Rattle.scan_rows.specs.Views.{shown_of}
use Rattle.solution.specs.Scans.{sight_of}
use Rattle.solution.proofs.sights.sights_of.Given as goal

abbrev pub invariant-loop-seen : goal.invariant-loop-seen
invariant-loop-seen l = l.sights.items ≡ map (sight_of (shown_of l.scan)) (take l.seen-index l.scan.seen.items)
