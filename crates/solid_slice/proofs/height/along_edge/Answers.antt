-- A coordinate along an edge, in 64 bits: nothing wraps, so it is the number of the definition.
--
-- A coordinate within 2^23 times a rise within 2^25 is within 2^48. The difference of two such coordinates is within
-- 2^24, and times the climb it is below 2^50. So both products and their sum are what they are as whole numbers.
use mir.Syntax.{w64}
use Rattle.geo_sign.proofs.Bounds.{held, held_kept, held_sub, held_add, held_mul, held_product, fits_held}
use Rattle.solid_slice.proofs.height.along_edge.Goals as goal

pub overflow_mul-result-2 : goal.overflow_mul-result-2
overflow_mul-result-2 c =
    fits_held w64
    (held_mul
    (held_kept w64
    (held_sub (held_kept w64 (held _ c.args.to c.requires.to_within) tt)
    (held_kept w64 (held _ c.args.from c.requires.from_within) tt)) tt)
    (held_kept w64 (held _ c.args.climb c.requires.climb_within) tt))
    tt

pub overflow_add-result : goal.overflow_add-result
overflow_add-result c =
    fits_held w64
    (held_add
    (held_kept w64 (held_product w64 c.args.from c.args.d c.requires.from_within c.requires.d_within tt tt) tt)
    (held_kept w64
    (held_mul
    (held_kept w64
    (held_sub (held_kept w64 (held _ c.args.to c.requires.to_within) tt)
    (held_kept w64 (held _ c.args.from c.requires.from_within) tt)) tt)
    (held_kept w64 (held _ c.args.climb c.requires.climb_within) tt))
    tt))
    tt

pub returns : goal.returns
returns c =
    (held_kept w64
    (held_add
    (held_kept w64 (held_product w64 c.args.from c.args.d c.requires.from_within c.requires.d_within tt tt) tt)
    (held_kept w64
    (held_mul
    (held_kept w64
    (held_sub (held_kept w64 (held _ c.args.to c.requires.to_within) tt)
    (held_kept w64 (held _ c.args.from c.requires.from_within) tt)) tt)
    (held_kept w64 (held _ c.args.climb c.requires.climb_within) tt))
    tt))
    tt).is
