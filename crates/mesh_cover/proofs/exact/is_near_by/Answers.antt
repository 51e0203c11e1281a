use Rattle.std.proofs.Common.{◌^◌}
use Rattle.std.proofs.lemmas.Bool.{OnTrue_from, OnTrue_at, leb-true}
use Rattle.geo_sign.specs.Point.{IsWithin}
use Rattle.mesh_cover.proofs.Measured.{square_read, near_by}
use Rattle.mesh_cover.proofs.exact.is_near_by.Goals as goal

pub returns : goal.returns
returns c =
    let w = c.args.w in
    let m = c.args.reach.scale in
    let q = c.args.q in
    let a = c.args.a in
    let b = c.args.b in
    let d = c.args.c in
    let small : IsWithin (2 ^ 40) q = OnTrue_at c.if-not-is_small.false c.is_small.ensures in
    OnTrue_from _ _
    (λ yes.
    near_by c.args.reach.within m w.a w.b w.c c.squared_gap-x.result c.squared_gap-y.result c.squared_gap-z.result c.squared_reach.result q a b d
    (OnTrue_at c.if-not-are_whole.false c.are_whole.ensures)
    (square_read m w.a w.b w.c c.squared_gap-x.result q.x a.x b.x d.x c.x.result c.x-2.result c.x-3.result c.x-4.result
    c.squared_gap-x.ensures.value c.x.ensures c.x-2.ensures c.x-3.ensures c.x-4.ensures small.x_within c.facts.ensures.x_within
    c.facts-2.ensures.x_within c.facts-3.ensures.x_within)
    (square_read m w.a w.b w.c c.squared_gap-y.result q.y a.y b.y d.y c.y.result c.y-2.result c.y-3.result c.y-4.result
    c.squared_gap-y.ensures.value c.y.ensures c.y-2.ensures c.y-3.ensures c.y-4.ensures small.y_within c.facts.ensures.y_within
    c.facts-2.ensures.y_within c.facts-3.ensures.y_within)
    (square_read m w.a w.b w.c c.squared_gap-z.result q.z a.z b.z d.z c.z.result c.z-2.result c.z-3.result c.z-4.result
    c.squared_gap-z.ensures.value c.z.ensures c.z-2.ensures c.z-3.ensures c.z-4.ensures small.z_within c.facts.ensures.z_within
    c.facts-2.ensures.z_within c.facts-3.ensures.z_within)
    c.squared_reach.ensures (leb-true _ _ yes))
