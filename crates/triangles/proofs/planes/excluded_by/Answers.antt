use Rattle.std.proofs.Common.{◌≤ℤ◌, ℤ, rules}
use mir.Syntax.{w128}
use mir.Val.{SFits}
use Rattle.triangles.specs.declared.corners.Marks.{Marks}
use Rattle.triangles.specs.declared.heights.Heights.{Heights}
use Rattle.triangles.proofs.Excluding.{AreHeights, IsUnder, IsOver, AreAbove, AreBelow, AreJoined, plain_le, plain_above, plain_below, excluded_above, excluded_below}
use Rattle.triangles.proofs.planes.excluded_by.Goals as goal

pub returns-then-roof-floor : goal.returns-then-roof-floor
returns-then-roof-floor c =
    let g : Heights = c.heights_over-a.result in
    let h : Heights = c.heights_over-b.result in
    let floor : ℤ = c.least-floor.result in
    let roof : ℤ = c.most-roof.result in
    let high : Marks = c.above-above.result in
    let low : Marks = c.below-below.result in
    let of_one : AreHeights c.args.normal c.args.one.now.p c.args.one.now g = search rules in
    let of_other : AreHeights c.args.normal c.args.one.now.p c.args.other.now h = search rules in
    let roof_fits : SFits w128 roof = search rules in
    let floor_fits : SFits w128 floor = search rules in
    let fits : roof ≤ℤ floor = plain_le roof floor roof_fits floor_fits c.if-roof-floor.true in
    let under : IsUnder floor g = search rules in
    let over : IsOver roof h = search rules in
    let above : AreAbove roof g high =
    record {
      p = λ e. plain_above roof _ roof_fits (c.above-above.ensures.p e);
      q = λ e. plain_above roof _ roof_fits (c.above-above.ensures.q e);
      r = λ e. plain_above roof _ roof_fits (c.above-above.ensures.r e);
    } in
    let below : AreBelow floor h low =
    record {
      p = λ e. plain_below floor _ floor_fits (c.below-below.ensures.p e);
      q = λ e. plain_below floor _ floor_fits (c.below-below.ensures.q e);
      r = λ e. plain_below floor _ floor_fits (c.below-below.ensures.r e);
    } in
    let joined : AreJoined c.args.excluded c.or.result high low = search rules in
    excluded_above _ _ c.args.one.now c.args.other.now g h of_one of_other c.args.excluded c.or.result c.requires.before low high floor roof fits
    under over above below joined

pub returns-then-roof-floor-2 : goal.returns-then-roof-floor-2
returns-then-roof-floor-2 c =
    let g : Heights = c.heights_over-a.result in
    let h : Heights = c.heights_over-b.result in
    let floor : ℤ = c.least-floor-2.result in
    let roof : ℤ = c.most-roof-2.result in
    let low : Marks = c.below-below-then-roof-floor-2.result in
    let high : Marks = c.above-above-then-roof-floor-2.result in
    let of_one : AreHeights c.args.normal c.args.one.now.p c.args.one.now g = search rules in
    let of_other : AreHeights c.args.normal c.args.one.now.p c.args.other.now h = search rules in
    let roof_fits : SFits w128 roof = search rules in
    let floor_fits : SFits w128 floor = search rules in
    let fits : roof ≤ℤ floor = plain_le roof floor roof_fits floor_fits c.if-roof-floor-2.true in
    let under : IsUnder floor h = search rules in
    let over : IsOver roof g = search rules in
    let below : AreBelow floor g low =
    record {
      p = λ e. plain_below floor _ floor_fits (c.below-below-then-roof-floor-2.ensures.p e);
      q = λ e. plain_below floor _ floor_fits (c.below-below-then-roof-floor-2.ensures.q e);
      r = λ e. plain_below floor _ floor_fits (c.below-below-then-roof-floor-2.ensures.r e);
    } in
    let above : AreAbove roof h high =
    record {
      p = λ e. plain_above roof _ roof_fits (c.above-above-then-roof-floor-2.ensures.p e);
      q = λ e. plain_above roof _ roof_fits (c.above-above-then-roof-floor-2.ensures.q e);
      r = λ e. plain_above roof _ roof_fits (c.above-above-then-roof-floor-2.ensures.r e);
    } in
    let joined : AreJoined c.args.excluded c.or-then-roof-floor-2.result low high = search rules in
    excluded_below _ _ c.args.one.now c.args.other.now g h of_one of_other c.args.excluded c.or-then-roof-floor-2.result c.requires.before low
    high floor roof fits under over below above joined
