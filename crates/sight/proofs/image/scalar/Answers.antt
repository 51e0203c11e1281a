use Rattle.std.proofs.Common.{◌^◌, ◌*◌, ◌+ℤ◌, ◌*ℤ◌, arith}
use mir.Syntax.{w64}
use Rattle.geo_sign.specs.Point.{Point, IsWithin, dot}
use Rattle.geo_sign.proofs.Bounds.{Held, kept, held_kept, held_add, fits_held, within_held, held_product}
use Rattle.sight.specs.Images.{along}
use Rattle.sight.proofs.image.scalar.Goals as goal

-- the sum of the products as the code computes it
three : (u v : Point) → IsWithin (2 ^ 24) u → IsWithin (2 ^ 24) v
    → Held (3 * 2 ^ 48)
    (kept w64 (kept w64 (kept w64 u.x *ℤ kept w64 v.x) +ℤ kept w64 (kept w64 u.y *ℤ kept w64 v.y))
    +ℤ kept w64 (kept w64 u.z *ℤ kept w64 v.z)) (dot u v)
three u v h k =
    held_add
    (held_kept w64
    (held_add (held_kept w64 (held_product w64 u.x v.x h.x_within k.x_within tt tt) tt)
    (held_kept w64 (held_product w64 u.y v.y h.y_within k.y_within tt tt) tt)) tt)
    (held_kept w64 (held_product w64 u.z v.z h.z_within k.z_within tt tt) tt)

pub overflow_mul-result-3 : goal.overflow_mul-result-3
overflow_mul-result-3 c = grind (arith, fits_held, held_product)

pub overflow_add-result : goal.overflow_add-result
overflow_add-result c =
    let h = c.requires.first in let k = c.requires.second in
    fits_held w64
    (held_add (held_kept w64 (held_product w64 c.args.d.x c.args.e.x h.x_within k.x_within tt tt) tt)
    (held_kept w64 (held_product w64 c.args.d.y c.args.e.y h.y_within k.y_within tt tt) tt)) tt

pub overflow_add-result-2 : goal.overflow_add-result-2
overflow_add-result-2 c = fits_held w64 (three (along c.args.d) (along c.args.e) c.requires.first c.requires.second) tt

pub returns-clause-value : goal.returns-clause-value
returns-clause-value c =
    (held_kept w64 (three (along c.args.d) (along c.args.e) c.requires.first c.requires.second) tt).is

pub returns-clause-bound : goal.returns-clause-bound
returns-clause-bound c =
    within_held (held_kept w64 (three (along c.args.d) (along c.args.e) c.requires.first c.requires.second) tt)
