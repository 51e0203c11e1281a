-- Each product is below 2^112 in absolute value, so the two sums do not wrap.
use Rattle.std.proofs.Common.{ℕ, ◌≡◌, ◌*◌, ◌≤◌, ◌^◌, ap, ◌∙◌, subst, rules, ℤ, pos, ◌+ℤ◌, ◌*ℤ◌, unsigned_abs, FitsSigned}
use Rattle.std.proofs.lemmas.Int.{to_z-of_z}
use mir.Syntax.{w32, w128}
use Rattle.geo_sign.proofs.Bounds.{Held, kept, held_kept, held_add, fits_held}
use Rattle.triangles.specs.Shared.{weighted_sum}
use Rattle.mesh_crossings.proofs.witness.sum_on.Goals as goal

-- a product as it is read
one : (u : ℕ) (x r : ℤ) → FitsSigned w32 x → r ≡ pos u *ℤ kept w32 x → unsigned_abs r ≤ 2 ^ 112
    → Held (2 ^ 112) (kept w128 r) (pos u *ℤ x)
one u x r fits e bound =
    let is : r ≡ pos u *ℤ x = e ∙ ap (λ (y : ℤ). pos u *ℤ y) (to_z-of_z w32 x fits) in
    let read : Held (2 ^ 112) r (pos u *ℤ x) =
    record { is = is; within = subst (λ (z : ℤ). unsigned_abs z ≤ 2 ^ 112) is bound } in
    held_kept w128 read tt

-- all three
three : (u v w : ℕ) (x y z r s t : ℤ) → Held (2 ^ 112) (kept w128 r) (pos u *ℤ x) → Held (2 ^ 112) (kept w128 s) (pos v *ℤ y)
    → Held (2 ^ 112) (kept w128 t) (pos w *ℤ z)
    → Held (3 * 2 ^ 112) (kept w128 (kept w128 r +ℤ kept w128 s) +ℤ kept w128 t) (weighted_sum x y z u v w)
three u v w x y z r s t first second third =
    let two : Held (2 ^ 113) (kept w128 r +ℤ kept w128 s) (pos u *ℤ x +ℤ pos v *ℤ y) = held_add first second in
    held_add (held_kept w128 two tt) third

pub overflow_add-result-2 : goal.overflow_add-result-2
overflow_add-result-2 c =
    fits_held w128
    (three c.args.w.a c.args.w.b c.args.w.c c.args.x c.args.y c.args.z c.scaled.result c.scaled-2.result c.scaled-3.result
    (one c.args.w.a c.args.x c.scaled.result (search rules) c.scaled.ensures.value c.scaled.ensures.bound)
    (one c.args.w.b c.args.y c.scaled-2.result (search rules) c.scaled-2.ensures.value c.scaled-2.ensures.bound)
    (one c.args.w.c c.args.z c.scaled-3.result (search rules) c.scaled-3.ensures.value c.scaled-3.ensures.bound))
    tt

pub returns : goal.returns
returns c =
    let sum : Held (3 * 2 ^ 112) (kept w128 (kept w128 c.scaled.result +ℤ kept w128 c.scaled-2.result) +ℤ kept w128 c.scaled-3.result) (weighted_sum c.args.x c.args.y c.args.z c.args.w.a c.args.w.b c.args.w.c) =
    three c.args.w.a c.args.w.b c.args.w.c c.args.x c.args.y c.args.z c.scaled.result c.scaled-2.result c.scaled-3.result
    (one c.args.w.a c.args.x c.scaled.result (search rules) c.scaled.ensures.value c.scaled.ensures.bound)
    (one c.args.w.b c.args.y c.scaled-2.result (search rules) c.scaled-2.ensures.value c.scaled-2.ensures.bound)
    (one c.args.w.c c.args.z c.scaled-3.result (search rules) c.scaled-3.ensures.value c.scaled-3.ensures.bound) in
    (held_kept w128 sum tt).is
