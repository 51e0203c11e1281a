use Rattle.std.proofs.Common.{ℕ, ◌≡◌, ◌<◌, true, arith}
use Rattle.std.proofs.lemmas.Bool.{OnTrue_from, OnTrue_at}
use Rattle.geo_sign.specs.Point.{step}
use Rattle.mesh_cover.specs.Covers.{times, IsMeanNear}
use Rattle.mesh_check.proofs.Beyond.{ahead_of, beyond}
use Rattle.mesh_check.proofs.far.is_beyond.Goals as goal

pub returns : goal.returns
returns c =
    let t = c.args.target in
    let n = c.args.n in
    let e = c.least-ahead.result in
    let some : 0 < e = omega (arith, c.if-ahead-eq0.false) in
    let far : c.is_higher.result ≡ true → (u v w : ℕ) → ¬ IsMeanNear t.within t.m t.q c.args.a c.args.b c.args.c u v w = λ yes u v w.
    beyond n t.q c.args.a c.args.b c.args.c t.m t.within e c.square_of.result u v w c.square_of.ensures.value
    (OnTrue_at yes c.is_higher.ensures)
    (ahead_of e c.part_over-one.result c.height.result n c.vector.result (step t.q (times t.m c.args.a)) some c.least-ahead.ensures.x
    c.part_over-one.ensures.value c.height.ensures.value c.height.ensures.bound c.vector.ensures.value)
    (ahead_of e c.part_over-two.result c.height-2.result n c.vector-2.result (step t.q (times t.m c.args.b)) some c.least-ahead.ensures.y
    c.part_over-two.ensures.value c.height-2.ensures.value c.height-2.ensures.bound c.vector-2.ensures.value)
    (ahead_of e c.part_over-three.result c.height-3.result n c.vector-3.result (step t.q (times t.m c.args.c)) some c.least-ahead.ensures.z
    c.part_over-three.ensures.value c.height-3.ensures.value c.height-3.ensures.bound c.vector-3.ensures.value) in
    OnTrue_from _ _ far
