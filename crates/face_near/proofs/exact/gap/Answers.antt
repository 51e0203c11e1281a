use Rattle.face_near.proofs.Measured.{gap_held}
use Rattle.face_near.proofs.exact.gap.Goals as goal

pub returns-clause-value : goal.returns-clause-value
returns-clause-value c =
    let w = c.args.w in
    (gap_held w.a w.b w.c c.args.scale c.args.x c.args.y c.args.z c.args.home c.sum_on.result c.far_out.result
    c.sum_on.ensures.value c.far_out.ensures.value c.sum_on.ensures.bound c.far_out.ensures.bound c.requires.home c.requires.x
    c.requires.y c.requires.z).is
