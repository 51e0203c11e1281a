use Rattle.std.proofs.Common.{◌≡◌, ap, subst, ◌∙◌, arith, get_or}
use Rattle.std.proofs.lemmas.List.{get_or_default}
use Rattle.flow_net.specs.Nets.{flag_at}
use Rattle.geo_sign.specs.Point.{Point, origin}
use Rattle.solid_query.specs.Solids.{IsFlaggedAs}
use Rattle.solid_query.proofs.Located.{one_flagged}
use Rattle.solid_query.proofs.asking.flags_at.Goals as goal

pub loop-point-preserved : goal.loop-point-preserved
loop-point-preserved g c =
    let s = c.args.t.now in
    let flags = c.args.flags.now in
    let points = c.args.points.now in
    let n = c.loop-point.point-index in
    let cell = c.locate_displaced-cell in
    let here : IsFlaggedAs s flags c.point-item.result (flag_at flags c.number.result) =
    record {
      cell = cell.result;
      live = cell.ensures.live;
      has = cell.ensures.is;
      flag_is = ap (flag_at flags) c.number.ensures;
    } in
    let read : c.point-item.result ≡ get_or points n origin =
    c.point-item.is ∙ get_or_default points n c.point-item.result origin (omega (arith, c.loop-point-test.true)) in
    let more =
    one_flagged s flags points n c.loop-point.found.items c.push.new.self.items (flag_at flags c.number.result)
    c.loop-point.invariant.count c.loop-point.invariant.each
    (subst (λ (p : Point). IsFlaggedAs s flags p (flag_at flags c.number.result)) read here) c.in_ok-push.ensures.items in
    record { live = cell.ensures.live; count = more.0; each = more.1 }
