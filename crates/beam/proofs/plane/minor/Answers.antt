use mir.Syntax.{w64}
use Rattle.geo_sign.proofs.Bounds.{held_kept, held_sub, fits_held, within_held, held_product}
use Rattle.beam.proofs.plane.minor.Goals as goal

pub overflow_sub-result : goal.overflow_sub-result
overflow_sub-result c =
    fits_held w64
    (held_sub (held_kept w64 (held_product w64 c.args.a c.args.d c.requires.a_within c.requires.d_within tt tt) tt)
    (held_kept w64 (held_product w64 c.args.b c.args.c c.requires.b_within c.requires.c_within tt tt) tt))
    tt

pub returns-clause-value : goal.returns-clause-value
returns-clause-value c =
    (held_kept w64
    (held_sub (held_kept w64 (held_product w64 c.args.a c.args.d c.requires.a_within c.requires.d_within tt tt) tt)
    (held_kept w64 (held_product w64 c.args.b c.args.c c.requires.b_within c.requires.c_within tt tt) tt))
    tt).is

pub returns-clause-bound : goal.returns-clause-bound
returns-clause-bound c =
    within_held
    (held_kept w64
    (held_sub (held_kept w64 (held_product w64 c.args.a c.args.d c.requires.a_within c.requires.d_within tt tt) tt)
    (held_kept w64 (held_product w64 c.args.b c.args.c c.requires.b_within c.requires.c_within tt tt) tt))
    tt)
