-- Whether a scan's plain form is the wide one: whether some point is not shown by one sight of weight 1, point after
-- point.
--
-- The sights stand in the order of their points. The invariant is that each point so far is shown so (so_far), and that
-- the sights of the points left begin at `next` (cut). Those of the next point run up to the end of its row (run). Where
-- they are not one of weight 1 the form is wide (not_once); else the point is one more that is shown so (once_more,
-- next_cut).
use Rattle.std.proofs.Common.{◌≡◌, ◌-◌, true, false, take, drop, get_or, pos, refl, sym, rules}
use Rattle.std.proofs.lemmas.List.{get_or_default}
use Rattle.geo_sign.specs.Point.{Point}
use Rattle.scan.specs.PlainForm.{is_once, row_showing}
use Rattle.scan.proofs.PrintSteps.{IsRun, next_cut, once_more, not_once}
use Rattle.scan.proofs.print.is_wide.Goals as goal

abbrev origin : Point
origin = record { x = pos 0; y = pos 0; z = pos 0 }

pub returns-then-not-is_once : goal.returns-then-not-is_once
returns-then-not-is_once c =
    let seen = c.args.seen.now in
    let point = get_or c.args.points.now c.loop-i.i origin in
    let is_point : point ≡ get_or c.args.points.now c.loop-i.i point =
    get_or_default c.args.points.now c.loop-i.i origin point c.loop-i-test.true in
    let start = c.loop-i.next in
    let end = c.end_of_row-end.result in
    let of = c.end_of_row-end.ensures in
    let run : IsRun seen start end c.loop-i.i =
    record { least = of.least; most = of.most; inside = of.inside; ends = of.ends } in
    let other : is_once (row_showing point (take (end - start) (drop start seen))) ≡ false =
    search (rules, c.is_once.ensures point) in
    sym (not_once c.args.points.now seen start end c.loop-i.i point (take (end - start) (drop start seen)) c.loop-i-test.true
    is_point c.requires c.loop-i.invariant.cut run refl other c.loop-i.invariant.so_far)

pub loop-i-preserved : goal.loop-i-preserved
loop-i-preserved c =
    let seen = c.args.seen.now in
    let point = get_or c.args.points.now c.loop-i.i origin in
    let is_point : point ≡ get_or c.args.points.now c.loop-i.i point =
    get_or_default c.args.points.now c.loop-i.i origin point c.loop-i-test.true in
    let start = c.loop-i.next in
    let end = c.end_of_row-end.result in
    let of = c.end_of_row-end.ensures in
    let run : IsRun seen start end c.loop-i.i =
    record { least = of.least; most = of.most; inside = of.inside; ends = of.ends } in
    let once : is_once (row_showing point (take (end - start) (drop start seen))) ≡ true = search (rules, c.is_once.ensures point) in
    record {
      so_far =
          once_more c.args.points.now seen start end c.loop-i.i point (take (end - start) (drop start seen)) c.loop-i-test.true
          is_point c.requires c.loop-i.invariant.cut run refl once c.loop-i.invariant.so_far;
      cut = next_cut seen start end c.loop-i.i c.requires c.loop-i.invariant.cut run;
    }
