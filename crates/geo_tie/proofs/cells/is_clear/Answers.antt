use Rattle.std.proofs.Common.{below_more}
use Rattle.geo_tie.proofs.cells.is_clear.Goals as goal

pub loop-u-preserved : goal.loop-u-preserved
loop-u-preserved c = below_more _ _ c.loop-u.invariant (c.is_outside.ensures.0 c.if-not-is_outside.false)
