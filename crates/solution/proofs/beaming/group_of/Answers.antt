use Rattle.std.proofs.Common.{refl, arith}
use Rattle.std.proofs.lemmas.List.Elements.{All-more, All-nil}
use Rattle.flow_net.specs.declared.votes.Sight.{Sight}
use Rattle.solution.specs.LongSights.{IsOfScanner}
use Rattle.solution.proofs.beaming.group_of.Goals as goal

pub loop-count-init : goal.loop-count-init
loop-count-init c =
    let d : Sight = record { vertex = 0; scanner = 0; weight = 0 } in
    record {
      some = omega arith;
      within = omega (arith, c.requires.some);
      same = All-more (IsOfScanner _) c.args.sights.now 0 d c.requires.some (All-nil (IsOfScanner _)) refl;
    }

pub loop-count-preserved : goal.loop-count-preserved
loop-count-preserved c =
    let d : Sight = record { vertex = 0; scanner = 0; weight = 0 } in
    let l = c.loop-count in
    let on = c.goes_on.ensures c.loop-count-test.true in
    record {
      some = omega arith;
      within = omega (arith, on.0);
      same = All-more (IsOfScanner _) c.args.sights.now l.count d on.0 l.invariant.same (on.1 d);
    }

pub loop-count-smaller : goal.loop-count-smaller
loop-count-smaller c = let on = c.goes_on.ensures c.loop-count-test.true in omega (arith, on.0)
