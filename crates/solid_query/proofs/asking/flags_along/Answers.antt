-- The flags of points, found in an order along a curve and put where each point stands.
--
-- The order has each index once, so a flag that was put is not written over (one_flagged_along), and behind the last all
-- points have theirs (all_flagged_along). Each goal first reads the point: its index is the k-th of the order, which is
-- below the number of points.
use Rattle.std.proofs.Common.{ℕ, ◌≡◌, ◌<◌, ap, subst, sym, ◌∙◌, arith, Bool, length, get_or, set, ◌+◌}
use Rattle.std.proofs.lemmas.List.{get_or_default, length-set}
use Rattle.std.proofs.lemmas.List.Elements.{All-get_or}
use Rattle.curve_order.specs.Order.{IsOrder}
use Rattle.flow_net.specs.Nets.{flag_at}
use Rattle.geo_sign.specs.Point.{Point, IsWithin, origin}
use Rattle.geo_sign.specs.declared.point.TheConstants.{DATA_LIMIT}
use Rattle.solid_query.specs.Solids.{IsFlaggedAs}
use Rattle.solid_query.proofs.Along.{one_flagged_along, all_flagged_along, AreFlaggedAlong}
use Rattle.solid_query.proofs.asking.flags_along.Goals as goal

pub order-requires-clause-within : goal.order-requires-clause-within
order-requires-clause-within g c =
    λ k l. All-get_or (IsWithin DATA_LIMIT) c.args.points.now k origin l c.requires.data_points

pub locate_displaced-cell-requires-clause-data_point : goal.locate_displaced-cell-requires-clause-data_point
locate_displaced-cell-requires-clause-data_point g c =
    let points = c.args.points.now in
    let order = c.in_ok-order.order.items in
    let at : ℕ = c.index.result.now in
    let is : IsOrder (length points) order = c.in_ok-order.ensures.order in
    let l : c.loop-k.k < length points = omega (arith, is.count) in
    let below : get_or order c.loop-k.k 0 < length points = is.below c.loop-k.k l in
    let e : at ≡ get_or order c.loop-k.k 0 =
    c.index.ensures ∙ get_or_default order c.loop-k.k at 0 (omega (arith, l, is.count)) in
    let m : at < length points = omega (arith, e, below) in
    subst (IsWithin DATA_LIMIT) (sym (c.index-points-at.is ∙ get_or_default points at c.index-points-at.result origin m))
    (All-get_or (IsWithin DATA_LIMIT) points at origin m c.requires.data_points)

pub index_mut-requires : goal.index_mut-requires
index_mut-requires g c =
    let points = c.args.points.now in
    let order = c.in_ok-order.order.items in
    let at : ℕ = c.index.result.now in
    let is : IsOrder (length points) order = c.in_ok-order.ensures.order in
    let l : c.loop-k.k < length points = omega (arith, is.count) in
    let below : get_or order c.loop-k.k 0 < length points = is.below c.loop-k.k l in
    let e : at ≡ get_or order c.loop-k.k 0 =
    c.index.ensures ∙ get_or_default order c.loop-k.k at 0 (omega (arith, l, is.count)) in
    let count : length c.loop-k.found.items ≡ length points = c.loop-k.invariant.count in
    omega (arith, e, below, count)

pub loop-k-preserved : goal.loop-k-preserved
loop-k-preserved g c =
    let s = c.args.t.now in
    let flags = c.args.flags.now in
    let points = c.args.points.now in
    let order = c.in_ok-order.order.items in
    let found = c.loop-k.found.items in
    let k = c.loop-k.k in
    let at : ℕ = c.index.result.now in
    let flag : Bool = flag_at flags c.number.result in
    let is : IsOrder (length points) order = c.in_ok-order.ensures.order in
    let l : k < length points = omega (arith, is.count) in
    let below : get_or order k 0 < length points = is.below k l in
    let e : at ≡ get_or order k 0 = c.index.ensures ∙ get_or_default order k at 0 (omega (arith, l, is.count)) in
    let cell = c.locate_displaced-cell in
    let read : c.index-points-at.result ≡ get_or points (get_or order k 0) origin =
    c.index-points-at.is ∙ get_or_default points at c.index-points-at.result origin (omega (arith, e, below))
    ∙ ap (λ (x : ℕ). get_or points x origin) e in
    let here : IsFlaggedAs s flags c.index-points-at.result flag =
    record { cell = cell.result; live = cell.ensures.live; has = cell.ensures.is; flag_is = ap (flag_at flags) c.number.ensures } in
    let more =
    one_flagged_along s flags points (length points) k order found flag is c.loop-k.invariant.count l c.loop-k.invariant.each
    (subst (λ (p : Point). IsFlaggedAs s flags p flag) read here) in
    record {
      live = cell.ensures.live;
      count = length-set found at flag ∙ c.loop-k.invariant.count;
      each = subst (λ (x : ℕ). AreFlaggedAlong s flags points order (k + 1) (set found x flag)) (sym e) more;
    }

pub returns : goal.returns
returns g c =
    let points = c.args.points.now in
    let order = c.in_ok-order.order.items in
    let is : IsOrder (length points) order = c.in_ok-order.ensures.order in
    let e : c.loop-k.k ≡ length points = omega (arith, is.count) in
    all_flagged_along c.args.t.now c.args.flags.now points order c.loop-k.found.items is c.loop-k.invariant.count
    (subst (λ (n : ℕ). AreFlaggedAlong c.args.t.now c.args.flags.now points order n c.loop-k.found.items) e
    c.loop-k.invariant.each)
