use Rattle.std.proofs.Common.{arith}
use Rattle.mesh_check.proofs.Searched.{near_more}
use Rattle.mesh_check.proofs.search.first_far.Goals as goal

pub loop-i-preserved : goal.loop-i-preserved
loop-i-preserved c =
    record {
      inside = omega (arith, c.in-Some.ensures.0);
      before =
          near_more c.args.fine c.args.within c.args.homes.now c.args.points.now c.index-points-i.result c.loop-i.i c.in-Some.k
          c.loop-i.invariant.before c.index-points-i.is c.loop-i-test.true c.in-Some.ensures.0 c.in-Some.ensures.1;
    }
