use Rattle.std.proofs.Common.{◌<◌, arith, below_more, get_or}
use Rattle.mesh_crossings.specs.Tested.{AreRanksKnown}
use Rattle.mesh_crossings.proofs.Known.{either_kept, kept_on, of_each}
use Rattle.mesh_crossings.proofs.gather.test_found.Goals as goal

pub loop-s-preserved : goal.loop-s-preserved
loop-s-preserved c =
    let points = c.args.points.now in
    let faces = c.args.faces.now in
    let numbers = c.args.numbers.now in
    let was = c.loop-s.invariant in
    let kept = c.in_ok-test_ranks.ensures.kept in
    let old = c.loop-s.pairs.items in
    let new = c.test_ranks.new.pairs.items in
    record {
      ordered = c.in_ok-test_ranks.ensures.ordered;
      kept = kept_on _ old new was.kept kept;
      known =
          below_more
          (λ k.
          get_or c.args.found.now k 0 < c.args.r
          → AreRanksKnown points faces numbers new c.args.r (get_or c.args.found.now k 0))
          c.loop-s.s-index (λ k l m. either_kept points faces old new _ _ kept (was.known k l m)) c.in_ok-test_ranks.ensures.known;
    }

pub returns-clause-known : goal.returns-clause-known
returns-clause-known c = λ s has.
    of_each c.args.points.now c.args.faces.now
    (λ k.
    k < c.args.r
    → AreRanksKnown c.args.points.now c.args.faces.now c.args.numbers.now c.loop-s.pairs.items c.args.r k)
    c.args.found.now c.loop-s.s-index s c.loop-s.invariant.known (omega (arith, c.loop-s-test.false)) has
