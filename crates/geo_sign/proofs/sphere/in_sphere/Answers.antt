-- The power of a point at four others, in words of 128 bits: nothing wraps, so its sign is that of the polynomial.
--
-- It is a sum of four terms, each a squared length times a determinant (lifted), of at most 9 * 2^121. So the sums of two,
-- three and four of them are held, as 36 * 2^121 is below 2^127 (two, three, four). The terms are of the vectors that were
-- computed, which are the differences of the points (lifted_is, same_sum), and the sum over these is the power
-- (power_by_differences).
use Rattle.std.proofs.Common.{◌≡◌, ap, ap₂, ◌^◌, ◌*◌, ℤ, ◌*ℤ◌, ◌-ℤ◌, ◌+ℤ◌, ◌∙◌, ◌≤◌, unsigned_abs}
use mir.Syntax.{w128}
use Rattle.geo_sign.specs.Point.{Point, dot, cross, square}
use Rattle.geo_sign.specs.Signs.{sign_of}
use Rattle.geo_sign.proofs.Bounds.{Held, kept, held, held_kept, held_add, held_sub, fits_held}
use Rattle.geo_sign.proofs.Identities.{power_by_differences}
use Rattle.geo_sign.proofs.sphere.in_sphere.Goals as goal

-- the sums as the code computes them
two : (a b : ℤ) → unsigned_abs a ≤ 9 * 2 ^ 121 → unsigned_abs b ≤ 9 * 2 ^ 121
    → Held (18 * 2 ^ 121) (kept w128 a -ℤ kept w128 b) (a -ℤ b)
two a b h k = held_sub (held_kept w128 (held _ a h) tt) (held_kept w128 (held _ b k) tt)

three : (a b d : ℤ) → unsigned_abs a ≤ 9 * 2 ^ 121 → unsigned_abs b ≤ 9 * 2 ^ 121 → unsigned_abs d ≤ 9 * 2 ^ 121
    → Held (27 * 2 ^ 121) (kept w128 (kept w128 a -ℤ kept w128 b) +ℤ kept w128 d) (a -ℤ b +ℤ d)
three a b d h k l = held_add (held_kept w128 (two a b h k) tt) (held_kept w128 (held _ d l) tt)

four : (a b d e : ℤ) → unsigned_abs a ≤ 9 * 2 ^ 121 → unsigned_abs b ≤ 9 * 2 ^ 121 → unsigned_abs d ≤ 9 * 2 ^ 121
    → unsigned_abs e ≤ 9 * 2 ^ 121
    → Held (36 * 2 ^ 121) (kept w128 (kept w128 (kept w128 a -ℤ kept w128 b) +ℤ kept w128 d) -ℤ kept w128 e) (a -ℤ b +ℤ d -ℤ e)
four a b d e h k l m = held_sub (held_kept w128 (three a b d h k l) tt) (held_kept w128 (held _ e m) tt)

pub overflow_sub-lifted : goal.overflow_sub-lifted
overflow_sub-lifted c =
    fits_held w128 (two c.lifted.result c.lifted-2.result c.lifted.ensures.bound c.lifted-2.ensures.bound) tt

pub overflow_add-lifted : goal.overflow_add-lifted
overflow_add-lifted c =
    fits_held w128
    (three c.lifted.result c.lifted-2.result c.lifted-3.result c.lifted.ensures.bound c.lifted-2.ensures.bound
    c.lifted-3.ensures.bound) tt

pub overflow_sub-lifted-2 : goal.overflow_sub-lifted-2
overflow_sub-lifted-2 c =
    fits_held w128
    (four c.lifted.result c.lifted-2.result c.lifted-3.result c.lifted-4.result c.lifted.ensures.bound c.lifted-2.ensures.bound
    c.lifted-3.ensures.bound c.lifted-4.ensures.bound) tt

-- the sum over the vectors that were computed, and over the differences
same_sum : (u v w t u' v' w' t' : Point) → u ≡ u' → v ≡ v' → w ≡ w' → t ≡ t'
    → square t *ℤ dot (cross u v) w -ℤ square w *ℤ dot (cross u v) t +ℤ square v *ℤ dot (cross u w) t
    -ℤ square u *ℤ dot (cross v w) t
    ≡ square t' *ℤ dot (cross u' v') w' -ℤ square w' *ℤ dot (cross u' v') t' +ℤ square v' *ℤ dot (cross u' w') t'
    -ℤ square u' *ℤ dot (cross v' w') t'
same_sum u v w t u' v' w' t' p q r s =
    let f =
    λ (u v w t : Point). square t *ℤ dot (cross u v) w -ℤ square w *ℤ dot (cross u v) t +ℤ square v *ℤ dot (cross u w) t
    -ℤ square u *ℤ dot (cross v w) t in
    ap (λ x. f x v w t) p ∙ ap (λ x. f u' x w t) q ∙ ap (λ x. f u' v' x t) r ∙ ap (λ x. f u' v' w' x) s

-- a lifted determinant
lifted_is : (s l d z : ℤ) → l ≡ s *ℤ kept w128 d → d ≡ z → unsigned_abs d ≤ 3 * 2 ^ 73 → l ≡ s *ℤ z
lifted_is s l d z e f h = e ∙ ap (λ y. s *ℤ y) ((held_kept w128 (held _ d h) tt).is ∙ f)

pub returns-clause-value : goal.returns-clause-value
returns-clause-value c =
    c.of.ensures
    ∙ ap sign_of
    ((held_kept w128
    (four c.lifted.result c.lifted-2.result c.lifted-3.result c.lifted-4.result c.lifted.ensures.bound c.lifted-2.ensures.bound
    c.lifted-3.ensures.bound c.lifted-4.ensures.bound) tt).is
    ∙ ap₂ (λ x y. x -ℤ y)
    (ap₂ (λ x y. x +ℤ y)
    (ap₂ (λ x y. x -ℤ y) (lifted_is _ _ _ _ c.lifted.ensures.value c.determinant.ensures.value c.determinant.ensures.bound)
    (lifted_is _ _ _ _ c.lifted-2.ensures.value c.determinant-2.ensures.value c.determinant-2.ensures.bound))
    (lifted_is _ _ _ _ c.lifted-3.ensures.value c.determinant-3.ensures.value c.determinant-3.ensures.bound))
    (lifted_is _ _ _ _ c.lifted-4.ensures.value c.determinant-4.ensures.value c.determinant-4.ensures.bound)
    ∙ same_sum c.to-u.result c.to-v.result c.to-w.result c.to-t.result _ _ _ _ c.to-u.ensures.value c.to-v.ensures.value
    c.to-w.ensures.value c.to-t.ensures.value
    ∙ power_by_differences c.args.a c.args.b c.args.c c.args.d c.args.p)
