-- The bounds of normals and of the plain power at points of the box: by the differences from the fifth point, as the code computes
-- them.
use Rattle.std.proofs.Common.{◌≤◌, ◌*◌, ◌^◌, ℤ, ◌+ℤ◌, ◌-ℤ◌, ◌*ℤ◌, unsigned_abs, subst}
use Rattle.geo_sign.specs.Point.{Point, IsWithin, step, cross, dot, square}
use Rattle.geo_sign.specs.SizeLaws.{NormalsAreSmall, PowersAreSmall}
use Rattle.geo_sign.proofs.Bounds.{abs_add, abs_sub, abs_mul, cross_within, dot_within, step_within}
use Rattle.geo_sign.proofs.Identities.{power_by_differences}

pub normals_are_small : NormalsAreSmall
normals_are_small a b c h i j = cross_within (step a b) (step a c) (step_within a b h i) (step_within a c h j)

square_within : (u : Point) → IsWithin (2 ^ 24) u → unsigned_abs (square u) ≤ 3 * 2 ^ 48
square_within u h =
    abs_add (u.x *ℤ u.x +ℤ u.y *ℤ u.y) (u.z *ℤ u.z) (2 ^ 49) (2 ^ 48)
    (abs_add (u.x *ℤ u.x) (u.y *ℤ u.y) (2 ^ 48) (2 ^ 48) (abs_mul u.x u.x (2 ^ 24) (2 ^ 24) h.x_within h.x_within)
    (abs_mul u.y u.y (2 ^ 24) (2 ^ 24) h.y_within h.y_within))
    (abs_mul u.z u.z (2 ^ 24) (2 ^ 24) h.z_within h.z_within)

-- a squared length times a determinant
lifted_within : (s u v w : Point) → IsWithin (2 ^ 24) s → IsWithin (2 ^ 24) u → IsWithin (2 ^ 24) v → IsWithin (2 ^ 24) w
    → unsigned_abs (square s *ℤ dot (cross u v) w) ≤ 9 * 2 ^ 121
lifted_within s u v w h i j k =
    abs_mul (square s) (dot (cross u v) w) (3 * 2 ^ 48) (3 * 2 ^ 73) (square_within s h)
    (dot_within (cross u v) w (cross_within u v i j) k)

pub powers_are_small : PowersAreSmall
powers_are_small a b c d p ha hb hc hd hp =
    let u : Point = step p a in
    let v : Point = step p b in
    let w : Point = step p c in
    let t : Point = step p d in
    let hu : IsWithin (2 ^ 24) u = step_within p a hp ha in
    let hv : IsWithin (2 ^ 24) v = step_within p b hp hb in
    let hw : IsWithin (2 ^ 24) w = step_within p c hp hc in
    let ht : IsWithin (2 ^ 24) t = step_within p d hp hd in
    subst (λ (z : ℤ). unsigned_abs z ≤ 72 * 2 ^ 120) (power_by_differences a b c d p)
    (abs_sub
    (square t *ℤ dot (cross u v) w -ℤ square w *ℤ dot (cross u v) t +ℤ square v *ℤ dot (cross u w) t)
    (square u *ℤ dot (cross v w) t) (27 * 2 ^ 121) (9 * 2 ^ 121)
    (abs_add (square t *ℤ dot (cross u v) w -ℤ square w *ℤ dot (cross u v) t) (square v *ℤ dot (cross u w) t)
    (18 * 2 ^ 121) (9 * 2 ^ 121)
    (abs_sub (square t *ℤ dot (cross u v) w) (square w *ℤ dot (cross u v) t) (9 * 2 ^ 121) (9 * 2 ^ 121)
    (lifted_within t u v w ht hu hv hw) (lifted_within w u v t hw hu hv ht)) (lifted_within v u w t hv hu hw ht))
    (lifted_within u v w t hu hv hw ht))
