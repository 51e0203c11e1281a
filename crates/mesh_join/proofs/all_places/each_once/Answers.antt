use Rattle.std.proofs.Common.{◌∙◌, arith}
use Rattle.std.proofs.lemmas.List.{get_or_default}
use Rattle.geo_sign.specs.Point.{origin}
use Rattle.mesh_join.proofs.AllPlaces.{all_placed, grows_placed, stays_placed}
use Rattle.mesh_join.proofs.all_places.each_once.Goals as goal
use Rattle.mesh_join.proofs.all_places.each_once.Goals.{then-follows+in_ok-push, else-follows}

pub loop-point-preserved : goal.loop-point-preserved
loop-point-preserved c = elim c.if-follows.branch [
  | then-follows+in_ok-push w ↦ rw w.places-is
      (grows_placed c.args.points.now c.loop-point.places.items w.push.new.self.items c.loop-point.point-index
      c.point-item.result
      (c.point-item.is ∙ get_or_default c.args.points.now c.loop-point.point-index _ origin c.loop-point-test.true) w.in_ok-push.ensures.items c.loop-point-test.true c.loop-point.invariant (rw c.deref.ensures.value at w.if-follows.ensures.yes))
  | else-follows w ↦ rw w.places-is
      (stays_placed c.args.points.now c.loop-point.places.items c.loop-point.point-index c.point-item.result
      (c.point-item.is ∙ get_or_default c.args.points.now c.loop-point.point-index _ origin c.loop-point-test.true) c.requires
      c.loop-point-test.true c.loop-point.invariant (rw c.deref.ensures.value at w.if-follows.ensures.no))
]

pub returns-clause-same : goal.returns-clause-same
returns-clause-same c =
    all_placed c.args.points.now c.loop-point.places.items c.loop-point.point-index (omega (arith, c.loop-point-test.false))
    c.loop-point.invariant
