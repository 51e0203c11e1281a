use mir.Syntax.{w64, w128}
use Rattle.std.proofs.Common.{ℤ, ◌≡◌, ◌≤◌, ◌*◌, ◌^◌, ◌*ℤ◌, ◌-ℤ◌, unsigned_abs, arith}
use Rattle.geo_sign.proofs.Bounds.{Held, kept, held_kept, held_sub, fits_held, within_held, held_product}
use Rattle.sight.proofs.image.determinant.Goals as goal

-- a product, and the difference of two, as the code computes them
one : (a b r : ℤ) → r ≡ kept w64 a *ℤ kept w64 b → unsigned_abs a ≤ 3 * 2 ^ 48 → unsigned_abs b ≤ 3 * 2 ^ 48
    → Held (9 * 2 ^ 96) (kept w128 r) (a *ℤ b)
one a b r e h k = grind (arith, held_product, held_kept)

both : (a b c d r s : ℤ) → r ≡ kept w64 a *ℤ kept w64 b → s ≡ kept w64 c *ℤ kept w64 d → unsigned_abs a ≤ 3 * 2 ^ 48
    → unsigned_abs b ≤ 3 * 2 ^ 48 → unsigned_abs c ≤ 3 * 2 ^ 48 → unsigned_abs d ≤ 3 * 2 ^ 48
    → Held (18 * 2 ^ 96) (kept w128 r -ℤ kept w128 s) (a *ℤ b -ℤ c *ℤ d)
both a b c d r s e f h i j k = held_sub (one a b r e h i) (one c d s f j k)

pub overflow_sub-result : goal.overflow_sub-result
overflow_sub-result c =
    let d = c.args.d in let a = c.args.a in let r = c.requires in
    fits_held w128
    (both a.right d.up d.right a.up c.widened_product.result c.widened_product-2.result c.widened_product.ensures
    c.widened_product-2.ensures r.a_right r.d_up r.d_right r.a_up) tt

pub returns-clause-value : goal.returns-clause-value
returns-clause-value c =
    let d = c.args.d in let a = c.args.a in let r = c.requires in
    (held_kept w128
    (both a.right d.up d.right a.up c.widened_product.result c.widened_product-2.result c.widened_product.ensures
    c.widened_product-2.ensures r.a_right r.d_up r.d_right r.a_up) tt).is

pub returns-clause-bound : goal.returns-clause-bound
returns-clause-bound c =
    let d = c.args.d in let a = c.args.a in let r = c.requires in
    within_held
    (held_kept w128
    (both a.right d.up d.right a.up c.widened_product.result c.widened_product-2.result c.widened_product.ensures
    c.widened_product-2.ensures r.a_right r.d_up r.d_right r.a_up) tt)
