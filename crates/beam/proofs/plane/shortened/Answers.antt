use mir.Syntax.{w64}
use Rattle.std.proofs.Common.{ℤ, ◌≤◌, ◌^◌, ◌*ℤ◌, ◌-ℤ◌, pos, unsigned_abs, subst, sym}
use Rattle.geo_sign.specs.Point.{point}
use Rattle.geo_sign.proofs.Bounds.{kept, held, held_kept}
use Rattle.beam.specs.Planes.{vector_of}
use Rattle.beam.proofs.Planes.{rounding}
use Rattle.beam.proofs.plane.shortened.Goals as goal

-- a rest is that of what is stored
near : (n h : ℤ) → unsigned_abs n ≤ 2 ^ 49 → unsigned_abs (kept w64 n -ℤ pos 4096 *ℤ h) ≤ 4095 → unsigned_abs h ≤ 2 ^ 37
    → unsigned_abs (n -ℤ pos 4096 *ℤ kept w64 h) ≤ 4095
near n h i j k =
    subst (λ (z : ℤ). unsigned_abs (n -ℤ pos 4096 *ℤ z) ≤ 4095) (sym (held_kept w64 (held (2 ^ 37) h k) tt).is)
    (subst (λ (z : ℤ). unsigned_abs (z -ℤ pos 4096 *ℤ h) ≤ 4095) (held_kept w64 (held (2 ^ 49) n i) tt).is j)

pub returns-clause-rounded : goal.returns-clause-rounded
returns-clause-rounded c =
    let u = c.args.u in let x = c.rounded in let y = c.rounded-2 in let z = c.rounded-3 in
    let r = c.requires in
    rounding (vector_of u) (point (kept w64 x.result) (kept w64 y.result) (kept w64 z.result))
    (near u.x x.result r.x_within x.ensures.near x.ensures.bound) (near u.y y.result r.y_within y.ensures.near y.ensures.bound)
    (near u.z z.result r.z_within z.ensures.near z.ensures.bound)
