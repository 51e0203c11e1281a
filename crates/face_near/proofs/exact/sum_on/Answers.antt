use Rattle.std.proofs.Common.{◌*◌, ◌^◌}
use mir.Syntax.{w64}
use Rattle.geo_sign.proofs.Bounds.{Held, kept, within_held}
use Rattle.triangles.specs.Shared.{weighted_sum}
use Rattle.face_near.proofs.Measured.{sum_held, times_read}
use Rattle.face_near.proofs.exact.sum_on.Goals as goal

pub returns-clause-value : goal.returns-clause-value
returns-clause-value c =
    let w = c.args.w in
    (sum_held w.a w.b w.c c.args.x c.args.y c.args.z c.scaled.result c.scaled-2.result c.scaled-3.result
    (times_read w.a c.args.x c.scaled.result c.scaled.ensures.value c.requires.x)
    (times_read w.b c.args.y c.scaled-2.result c.scaled-2.ensures.value c.requires.y)
    (times_read w.c c.args.z c.scaled-3.result c.scaled-3.ensures.value c.requires.z) c.scaled.ensures.bound
    c.scaled-2.ensures.bound c.scaled-3.ensures.bound).is

pub returns-clause-bound : goal.returns-clause-bound
returns-clause-bound c =
    let w = c.args.w in
    within_held
    (sum_held w.a w.b w.c c.args.x c.args.y c.args.z c.scaled.result c.scaled-2.result c.scaled-3.result
    (times_read w.a c.args.x c.scaled.result c.scaled.ensures.value c.requires.x)
    (times_read w.b c.args.y c.scaled-2.result c.scaled-2.ensures.value c.requires.y)
    (times_read w.c c.args.z c.scaled-3.result c.scaled-3.ensures.value c.requires.z) c.scaled.ensures.bound
    c.scaled-2.ensures.bound c.scaled-3.ensures.bound)
