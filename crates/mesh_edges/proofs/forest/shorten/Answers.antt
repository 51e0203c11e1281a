use Rattle.std.proofs.Common.{arith}
use Rattle.mesh_edges.proofs.Tops.{shortened, top_above, top_least, forest_still, count_still}
use Rattle.mesh_edges.proofs.forest.shorten.Goals as goal

pub loop-parents-init : goal.loop-parents-init
loop-parents-init c =
    record {
      forest = c.requires.forest;
      count = omega arith;
      within = c.requires.within;
      top = c.requires.top;
      kept = λ k t p. p;
    }

pub loop-parents-smaller : goal.loop-parents-smaller
loop-parents-smaller c =
    omega (arith, c.loop-parents.invariant.forest c.loop-parents.at c.loop-parents.invariant.within)

pub loop-parents-preserved : goal.loop-parents-preserved
loop-parents-preserved c =
    let ps = c.loop-parents.parents in
    let i = c.loop-parents.at in
    let was = c.loop-parents.invariant in
    record {
      forest = forest_still ps i c.args.top was.within was.forest (top_least ps was.forest was.within was.top);
      count = omega (arith, count_still ps i c.args.top, was.count);
      within = omega (arith, count_still ps i c.args.top, was.forest i was.within, was.within);
      top = shortened ps i c.args.top was.within was.top (top_above ps was.top);
      kept = λ k t p. shortened ps i c.args.top was.within was.top (was.kept k t p);
    }
