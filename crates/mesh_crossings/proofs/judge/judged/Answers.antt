use Rattle.std.proofs.Common.{◌+◌, arith, inl, inr, refl, subst, sym}
use Rattle.mesh_crossings.specs.Crossings.{AreCrossing}
use Rattle.mesh_crossings.specs.Tested.{pair_in}
use Rattle.mesh_crossings.proofs.Judged.{all_divided}
use Rattle.mesh_crossings.proofs.Tidied.{all_below, in_order, is_new, made, one_divided, swapped}
use Rattle.mesh_crossings.proofs.judge.judged.Goals as goal

pub push_new-requires-clause-top : goal.push_new-requires-clause-top
push_new-requires-clause-top c =
    all_below c.args.pairs.now c.loop-pair.pair-index _ (made 0 0) c.loop-pair-test.true refl
    (in_order c.args.pairs.now c.requires.rising)
    c.loop-pair.crossing.items c.loop-pair.invariant.divided.from

pub loop-pair-preserved-then-is_crossing : goal.loop-pair-preserved-then-is_crossing
loop-pair-preserved-then-is_crossing c =
    let pairs = c.args.pairs.now in
    let n = c.loop-pair.pair-index in
    let p = pair_in pairs n in
    let l = c.loop-pair-test.true in
    let was = c.loop-pair.invariant in
    let did = c.in_ok-push_new.ensures in
    record {
      each = λ q has.
          elim (did.only q has) [
            | inl old ↦ was.each q old
            | inr same ↦ subst (AreCrossing c.args.points.now c.args.faces.now) (sym same) c.if-is_crossing.ensures
          ];
      divided =
          one_divided pairs n p (made 0 0) l refl c.loop-pair.crossing.items c.push_new.new.list.items c.loop-pair.undecided.items
          did.rising did.kept did.has did.only
          (λ has. is_new pairs n p (made 0 0) l refl c.requires.rising (was.divided.other_from p has)) was.divided;
    }

pub push_new-requires-in-loop-pair-clause-top : goal.push_new-requires-in-loop-pair-clause-top
push_new-requires-in-loop-pair-clause-top c =
    all_below c.args.pairs.now c.loop-pair.pair-index _ (made 0 0) c.loop-pair-test.true refl
    (in_order c.args.pairs.now c.requires.rising)
    c.loop-pair.undecided.items c.loop-pair.invariant.divided.other_from

pub loop-pair-preserved : goal.loop-pair-preserved
loop-pair-preserved c =
    let pairs = c.args.pairs.now in
    let n = c.loop-pair.pair-index in
    let p = pair_in pairs n in
    let l = c.loop-pair-test.true in
    let one = c.loop-pair.crossing.items in
    let old = c.loop-pair.undecided.items in
    let new = c.push_new-in-loop-pair.new.list.items in
    let was = c.loop-pair.invariant in
    let did = c.in_ok-push_new-2.ensures in
    record {
      each = was.each;
      divided =
          swapped pairs new one (n + 1)
          (one_divided pairs n p (made 0 0) l refl old new one did.rising did.kept did.has did.only
          (λ has. is_new pairs n p (made 0 0) l refl c.requires.rising (was.divided.from p has))
          (swapped pairs one old n was.divided));
    }

pub returns : goal.returns
returns c =
    all_divided c.args.points.now c.args.faces.now c.args.pairs.now c.loop-pair.crossing.items c.loop-pair.undecided.items
    c.loop-pair.pair-index (omega (arith, c.loop-pair-test.false)) c.requires.ordered c.requires.known
    c.loop-pair.invariant.each c.loop-pair.invariant.divided
