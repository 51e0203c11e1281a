use Rattle.std.proofs.Common.{ℕ, ◌≡◌, ◌+◌, ◌*◌, ◌<◌, ap, ◌∙◌, arith}
use Rattle.std.proofs.lemmas.Bool.{OnTrue_from, leb-true}
use Rattle.face_near.proofs.Measured.{square_read, near_at}
use Rattle.face_near.proofs.exact.is_near_at.Goals as goal

pub returns : goal.returns
returns c =
    let w = c.args.w in
    let fine = c.args.reach.fine in
    let scale = c.scale_of-scale.result in
    let p = c.args.p in
    let a = c.args.a in
    let b = c.args.b in
    let d = c.args.c in
    let some : 0 < w.a + w.b + w.c = omega arith in
    let total : c.from.result + c.from-2.result + c.from-3.result ≡ w.a + w.b + w.c = omega arith in
    let scale_is : scale ≡ (w.a + w.b + w.c) * fine = c.scale_of-scale.ensures.value ∙ ap (λ (n : ℕ). n * fine) total in
    OnTrue_from _ _
    (λ yes.
    near_at fine c.args.reach.within w.a w.b w.c scale c.squared_gap-x.result c.squared_gap-y.result c.squared_gap-z.result
    c.squared_reach.result p a b d some scale_is
    (square_read scale w.a w.b w.c c.squared_gap-x.result p.x a.x b.x d.x c.x.result c.x-2.result c.x-3.result c.x-4.result
    c.squared_gap-x.ensures.value c.x.ensures c.x-2.ensures c.x-3.ensures c.x-4.ensures c.facts.ensures.x_within
    c.facts-2.ensures.x_within c.facts-3.ensures.x_within c.facts-4.ensures.x_within)
    (square_read scale w.a w.b w.c c.squared_gap-y.result p.y a.y b.y d.y c.y.result c.y-2.result c.y-3.result c.y-4.result
    c.squared_gap-y.ensures.value c.y.ensures c.y-2.ensures c.y-3.ensures c.y-4.ensures c.facts.ensures.y_within
    c.facts-2.ensures.y_within c.facts-3.ensures.y_within c.facts-4.ensures.y_within)
    (square_read scale w.a w.b w.c c.squared_gap-z.result p.z a.z b.z d.z c.z.result c.z-2.result c.z-3.result c.z-4.result
    c.squared_gap-z.ensures.value c.z.ensures c.z-2.ensures c.z-3.ensures c.z-4.ensures c.facts.ensures.z_within
    c.facts-2.ensures.z_within c.facts-3.ensures.z_within c.facts-4.ensures.z_within)
    c.squared_reach.ensures (leb-true _ _ yes))
