use Rattle.std.proofs.Common.{[], arith, refl}
use Rattle.mesh_crossings.proofs.Tidied.{all_below, all_passed, made, one_divided}
use Rattle.mesh_crossings.proofs.tidy.without_repeats.Goals as goal

pub push_new-requires-clause-top : goal.push_new-requires-clause-top
push_new-requires-clause-top c =
    all_below c.args.pairs.now c.loop-pair.pair-index _ (made 0 0) c.loop-pair-test.true refl c.requires c.loop-pair.list.items
    c.loop-pair.invariant.from

pub loop-pair-preserved : goal.loop-pair-preserved
loop-pair-preserved c =
    let did = c.in_ok-push_new.ensures in
    one_divided c.args.pairs.now c.loop-pair.pair-index _ (made 0 0) c.loop-pair-test.true refl c.loop-pair.list.items
    c.push_new.new.list.items [] did.rising did.kept did.has did.only (λ has. absurd (omega (arith, has.1))) c.loop-pair.invariant

pub returns-clause-same : goal.returns-clause-same
returns-clause-same c =
    all_passed c.args.pairs.now c.loop-pair.list.items c.loop-pair.pair-index (omega (arith, c.loop-pair-test.false))
    c.loop-pair.invariant
