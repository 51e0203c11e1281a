use Rattle.std.proofs.Common.{◌≤ℤ◌, ℤ, pos, rules}
use mir.Syntax.{w128}
use mir.Val.{SFits}
use Rattle.triangles.specs.declared.corners.Marks.{Marks}
use Rattle.triangles.specs.declared.heights.Heights.{Heights}
use Rattle.triangles.proofs.Excluding.{AreHeights, IsUnder, IsOver, AreAbove, AreBelow, by_own_normal, plain_le, excluded_under, excluded_over}
use Rattle.triangles.proofs.planes.excluded_off.Goals as goal

pub returns-then-roof-le0 : goal.returns-then-roof-le0
returns-then-roof-le0 c =
    let h : Heights = c.heights_over-heights.result in
    let roof : ℤ = c.most-roof.result in
    let low : Marks = c.below.result in
    let heights : AreHeights c.cross-normal.result c.args.one.now.p c.args.other.now h = search rules in
    let own = by_own_normal c.args.one.now.q c.args.one.now.r c.args.other.now h c.cross-normal.ensures.value
    c.to-first.ensures.value c.to-second.ensures.value heights in
    let roof_fits : SFits w128 roof = search rules in
    let zero_fits : SFits w128 (pos 0) = search rules in
    let low_roof : roof ≤ℤ pos 0 = plain_le roof (pos 0) roof_fits zero_fits c.if-roof-le0.true in
    let over : IsOver roof h = search rules in
    let below : AreBelow (pos 0) h low = search rules in
    excluded_under c.args.one.now c.args.other.now h own low roof low_roof over below

pub returns-then-floor-ge0 : goal.returns-then-floor-ge0
returns-then-floor-ge0 c =
    let h : Heights = c.heights_over-heights.result in
    let floor : ℤ = c.least-floor.result in
    let high : Marks = c.above.result in
    let heights : AreHeights c.cross-normal.result c.args.one.now.p c.args.other.now h = search rules in
    let own = by_own_normal c.args.one.now.q c.args.one.now.r c.args.other.now h c.cross-normal.ensures.value
    c.to-first.ensures.value c.to-second.ensures.value heights in
    let floor_fits : SFits w128 floor = search rules in
    let zero_fits : SFits w128 (pos 0) = search rules in
    let high_floor : pos 0 ≤ℤ floor = plain_le (pos 0) floor zero_fits floor_fits c.if-floor-ge0.true in
    let under : IsUnder floor h = search rules in
    let above : AreAbove (pos 0) h high = search rules in
    excluded_over c.args.one.now c.args.other.now h own high floor high_floor under above
