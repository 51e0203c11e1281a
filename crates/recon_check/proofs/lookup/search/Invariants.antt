use Rattle.std.proofs.Common.{◌-◌, map}
use Rattle.recon_check.proofs.Lookups.{IsNarrowed}
use Rattle.recon_check.proofs.lookup.search.Given as goal

abbrev pub invariant-loop-low : goal.invariant-loop-low
invariant-loop-low g l = IsNarrowed (map g.R.Row.key l.rows) l.from l.to l.key l.low l.high

abbrev pub decreases-loop-low : goal.decreases-loop-low
decreases-loop-low g l = l.high - l.low
