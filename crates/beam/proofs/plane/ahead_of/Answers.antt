use mir.Syntax.{w64}
use Rattle.std.proofs.Common.{◌*◌, ◌^◌, ◌≤◌, ◌∙◌, ℤ, ◌+ℤ◌, ◌-ℤ◌, ◌*ℤ◌, unsigned_abs, ap, sym, subst}
use Rattle.geo_sign.specs.declared.point.TheConstants.{BOX_LIMIT}
use Rattle.geo_sign.proofs.Bounds.{Held, kept, held, held_kept, held_sub, fits_held, abs_add, abs_mul}
use Rattle.beam.specs.declared.plane.Plane.{Plane}
use Rattle.beam.specs.Planes.{vector_of, IsPlane}
use Rattle.beam.proofs.plane.ahead_of.Goals as goal

-- the base is such a product, too
base : (w : Plane) → IsPlane w → unsigned_abs w.base ≤ 3 * 2 ^ 60
base w h =
    let n = vector_of w.normal in let s = w.scanner in
    subst (λ (z : ℤ). unsigned_abs z ≤ 3 * 2 ^ 60) (sym h.base)
    (abs_add (n.x *ℤ s.x +ℤ n.y *ℤ s.y) (n.z *ℤ s.z) (2 * 2 ^ 60) (2 ^ 60)
    (abs_add (n.x *ℤ s.x) (n.y *ℤ s.y) (2 ^ 60) (2 ^ 60) (abs_mul n.x s.x (2 ^ 37) BOX_LIMIT h.short.x_within h.scanner_within.x_within)
    (abs_mul n.y s.y (2 ^ 37) BOX_LIMIT h.short.y_within h.scanner_within.y_within))
    (abs_mul n.z s.z (2 ^ 37) BOX_LIMIT h.short.z_within h.scanner_within.z_within))

both : (d e : ℤ) → unsigned_abs d ≤ 3 * 2 ^ 60 → unsigned_abs e ≤ 3 * 2 ^ 60
    → Held (6 * 2 ^ 60) (kept w64 d -ℤ kept w64 e) (d -ℤ e)
both d e h k = held_sub (held_kept w64 (held (3 * 2 ^ 60) d h) tt) (held_kept w64 (held (3 * 2 ^ 60) e k) tt)

pub overflow_sub-result : goal.overflow_sub-result
overflow_sub-result c =
    fits_held w64 (both c.product.result c.args.plane.now.base c.product.ensures.bound (base c.args.plane.now c.requires.plane)) tt

pub returns : goal.returns
returns c =
    (held_kept w64 (both c.product.result c.args.plane.now.base c.product.ensures.bound (base c.args.plane.now c.requires.plane)) tt).is
    ∙ ap (λ (d : ℤ). d -ℤ c.args.plane.now.base) c.product.ensures.value
