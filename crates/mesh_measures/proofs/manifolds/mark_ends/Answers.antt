use Rattle.std.proofs.Common.{arith, length, true}
use Rattle.std.proofs.Math.ListN.{length-set}
use Rattle.mesh_measures.proofs.Marked.{ends_more, ends_skipped}
use Rattle.mesh_measures.proofs.manifolds.mark_ends.Goals as goal

pub bounds-flags-low : goal.bounds-flags-low
bounds-flags-low c = c.end_of-low.ensures.below (length c.args.flags.now) c.requires.each

pub bounds-flags-high : goal.bounds-flags-high
bounds-flags-high c =
    omega (
      arith,
      c.end_of-high.ensures.below (length c.args.flags.now) c.requires.each,
      length-set c.args.flags.now c.end_of-low.result true,
    )

pub returns-then-not-is_odd_side-clause-marked : goal.returns-then-not-is_odd_side-clause-marked
returns-then-not-is_odd_side-clause-marked c =
    ends_skipped c.args.faces.now c.args.sides.now c.args.i c.args.flags.now c.if-not-is_odd_side.ensures.no c.requires.marked

pub returns-clause-marked : goal.returns-clause-marked
returns-clause-marked c =
    ends_more c.args.faces.now c.args.sides.now c.args.i c.args.flags.now c.end_of-low.result c.end_of-high.result
    c.if-not-is_odd_side.ensures.yes c.end_of-low.ensures.value c.end_of-high.ensures.value
    (c.end_of-low.ensures.below (length c.args.flags.now) c.requires.each)
    (c.end_of-high.ensures.below (length c.args.flags.now) c.requires.each) c.requires.marked
