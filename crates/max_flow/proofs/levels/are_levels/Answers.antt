use Rattle.std.proofs.Common.{below_more}
use Rattle.max_flow.proofs.levels.are_levels.Goals as goal

pub loop-node-preserved : goal.loop-node-preserved
loop-node-preserved g c = record {
  ends = below_more _ _ c.loop-node.invariant.ends (c.is_onward.ensures.ends c.if-not-is_onward.false);
  onward = below_more _ _ c.loop-node.invariant.onward (c.is_onward.ensures.onward c.if-not-is_onward.false);
}
