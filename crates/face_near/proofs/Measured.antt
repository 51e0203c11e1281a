-- Distances as the code computes them.
--
-- A coordinate is at most 2^23 in absolute value, a weight at most 2^20 and `fine` at most 2^16. So a sum of three weighted coordinates is
-- at most 3 * 2^43, the scale 3 * 2^36, a difference at most 2^61, its square 2^122, and no sum of three wraps.
use Rattle.std.proofs.Common.{ℕ, ◌≡◌, ◌+◌, ◌*◌, ◌≤◌, ◌<◌, ◌^◌, refl, ap, sym, subst, ◌∙◌, arith}
use Rattle.std.proofs.Common.{ℤ, pos, unsigned_abs, ◌+ℤ◌, ◌-ℤ◌, ◌*ℤ◌, ◌≤ℤ◌}
use Rattle.std.proofs.Math.IntN.{pos-+ℤ-pos}
use Rattle.std.proofs.lemmas.Int.{ints}
use mir.Syntax.{w32, w64}
use Rattle.geo_sign.specs.Point.{Point}
use Rattle.geo_sign.specs.declared.point.TheConstants.{BOX_LIMIT}
use Rattle.geo_sign.proofs.Bounds.{kept, Held, held, held_kept, held_add, held_sub}
use Rattle.triangles.specs.Shared.{weighted_sum}
use Rattle.face_near.specs.Near.{IsNearAt}

-- a sum of three numbers as they are read
pub sum_held : (u v w : ℕ) (x y z r s t : ℤ) → r ≡ pos u *ℤ x → s ≡ pos v *ℤ y → t ≡ pos w *ℤ z → unsigned_abs r ≤ 2 ^ 43
    → unsigned_abs s ≤ 2 ^ 43 → unsigned_abs t ≤ 2 ^ 43
    → Held (3 * 2 ^ 43) (kept w64 (kept w64 (kept w64 r +ℤ kept w64 s) +ℤ kept w64 t)) (weighted_sum x y z u v w)
sum_held u v w x y z r s t r_is s_is t_is r_in s_in t_in =
    let one : Held (2 ^ 43) (kept w64 r) (pos u *ℤ x) = held_kept w64 (of r (pos u *ℤ x) r_is r_in) tt in
    let two : Held (2 ^ 43) (kept w64 s) (pos v *ℤ y) = held_kept w64 (of s (pos v *ℤ y) s_is s_in) tt in
    let three : Held (2 ^ 43) (kept w64 t) (pos w *ℤ z) = held_kept w64 (of t (pos w *ℤ z) t_is t_in) tt in
    let first : Held (2 ^ 44) (kept w64 r +ℤ kept w64 s) (pos u *ℤ x +ℤ pos v *ℤ y) = held_add one two in
    let all : Held (3 * 2 ^ 43) (kept w64 (kept w64 r +ℤ kept w64 s) +ℤ kept w64 t) (weighted_sum x y z u v w) = held_add (held_kept w64 first tt) three in
    held_kept w64 all tt
  where
    of : (t z : ℤ) → t ≡ z → unsigned_abs t ≤ 2 ^ 43 → Held (2 ^ 43) t z
    of t z is within = record { is = is; within = subst (λ (y : ℤ). unsigned_abs y ≤ 2 ^ 43) is within }

-- a coordinate that is passed on
pub read : (t x : ℤ) → t ≡ x → unsigned_abs x ≤ BOX_LIMIT → kept w32 t ≡ x
read t x is within =
    let before : Held (2 ^ 23) t x = record { is = is; within = within } in
    (held_kept w32 before tt).is

-- the square of a difference of coordinates that are passed on
pub square_read : (scale u v w r : ℕ) (home x y z s a b c : ℤ)
    → pos r ≡ (weighted_sum (kept w32 a) (kept w32 b) (kept w32 c) u v w -ℤ pos scale *ℤ kept w32 s) *ℤ (weighted_sum (kept w32 a) (kept w32 b) (kept w32 c) u v w -ℤ pos scale *ℤ kept w32 s)
    → s ≡ home → a ≡ x → b ≡ y → c ≡ z → unsigned_abs home ≤ BOX_LIMIT → unsigned_abs x ≤ BOX_LIMIT → unsigned_abs y ≤ BOX_LIMIT
    → unsigned_abs z ≤ BOX_LIMIT
    → pos r ≡ (weighted_sum x y z u v w -ℤ pos scale *ℤ home) *ℤ (weighted_sum x y z u v w -ℤ pos scale *ℤ home)
square_read scale u v w r home x y z s a b c is s_is a_is b_is c_is home_in x_in y_in z_in =
    is ∙ ap (λ (d : ℤ). d *ℤ d)
    (ap (λ (t : ℤ). weighted_sum t (kept w32 b) (kept w32 c) u v w -ℤ pos scale *ℤ kept w32 s) (read a x a_is x_in)
    ∙ (ap (λ (t : ℤ). weighted_sum x t (kept w32 c) u v w -ℤ pos scale *ℤ kept w32 s) (read b y b_is y_in)
    ∙ (ap (λ (t : ℤ). weighted_sum x y t u v w -ℤ pos scale *ℤ kept w32 s) (read c z c_is z_in)
    ∙ ap (λ (t : ℤ). weighted_sum x y z u v w -ℤ pos scale *ℤ t) (read s home s_is home_in))))

-- the square of the distance, times the sum of the weights, with m for the scale
abbrev pub squared_off : (u v w : ℕ) → (a b c p : Point) → (m : ℕ) → ℤ
squared_off u v w a b c p m =
    (weighted_sum a.x b.x c.x u v w -ℤ pos m *ℤ p.x) *ℤ (weighted_sum a.x b.x c.x u v w -ℤ pos m *ℤ p.x)
    +ℤ (weighted_sum a.y b.y c.y u v w -ℤ pos m *ℤ p.y) *ℤ (weighted_sum a.y b.y c.y u v w -ℤ pos m *ℤ p.y)
    +ℤ (weighted_sum a.z b.z c.z u v w -ℤ pos m *ℤ p.z) *ℤ (weighted_sum a.z b.z c.z u v w -ℤ pos m *ℤ p.z)

-- a sum of squares is compared with a square
pub near_at : (fine within u v w scale x y z reach : ℕ) (p a b c : Point) → 0 < u + v + w → scale ≡ (u + v + w) * fine
    → pos x ≡ (weighted_sum a.x b.x c.x u v w -ℤ pos scale *ℤ p.x) *ℤ (weighted_sum a.x b.x c.x u v w -ℤ pos scale *ℤ p.x)
    → pos y ≡ (weighted_sum a.y b.y c.y u v w -ℤ pos scale *ℤ p.y) *ℤ (weighted_sum a.y b.y c.y u v w -ℤ pos scale *ℤ p.y)
    → pos z ≡ (weighted_sum a.z b.z c.z u v w -ℤ pos scale *ℤ p.z) *ℤ (weighted_sum a.z b.z c.z u v w -ℤ pos scale *ℤ p.z)
    → reach ≡ scale * within * (scale * within) → x + y + z ≤ reach
    → IsNearAt fine within p a b c u v w
near_at fine within u v w scale x y z reach p a b c some scale_is x_is y_is z_is reach_is below =
    subst (λ (m : ℕ). (0 < u + v + w) × (squared_off u v w a b c p m ≤ℤ pos (m * within * (m * within)))) scale_is (
      some,
      subst (λ (s : ℤ). s ≤ℤ pos (scale * within * (scale * within))) sum
          (subst (λ (n : ℕ). pos (x + y + z) ≤ℤ pos n) reach_is (le_pos (x + y + z) reach below)),
    )
  where
    le_pos : (m n : ℕ) → m ≤ n → pos m ≤ℤ pos n
    le_pos m n h = omega (arith, ints)

    sum : pos (x + y + z) ≡ squared_off u v w a b c p scale
    sum =
        sym (ap (λ (s : ℤ). s +ℤ pos z) (pos-+ℤ-pos x y) ∙ pos-+ℤ-pos (x + y) z)
        ∙ (ap (λ (s : ℤ). s +ℤ pos y +ℤ pos z) x_is
        ∙ (ap (λ (s : ℤ). (weighted_sum a.x b.x c.x u v w -ℤ pos scale *ℤ p.x) *ℤ (weighted_sum a.x b.x c.x u v w -ℤ pos scale *ℤ p.x) +ℤ s +ℤ pos z) y_is
        ∙ ap (λ (s : ℤ). (weighted_sum a.x b.x c.x u v w -ℤ pos scale *ℤ p.x) *ℤ (weighted_sum a.x b.x c.x u v w -ℤ pos scale *ℤ p.x)
        +ℤ (weighted_sum a.y b.y c.y u v w -ℤ pos scale *ℤ p.y) *ℤ (weighted_sum a.y b.y c.y u v w -ℤ pos scale *ℤ p.y) +ℤ s) z_is))

-- a product with a coordinate that is passed on
pub times_read : (u : ℕ) (x r : ℤ) → r ≡ pos u *ℤ kept w32 x → unsigned_abs x ≤ BOX_LIMIT → r ≡ pos u *ℤ x
times_read u x r is within = is ∙ ap (λ (y : ℤ). pos u *ℤ y) (read x x refl within)

-- a difference of a sum and a product as they are read
pub gap_held : (u v w scale : ℕ) (x y z home s f : ℤ) → s ≡ weighted_sum (kept w32 x) (kept w32 y) (kept w32 z) u v w
    → f ≡ pos scale *ℤ kept w32 home → unsigned_abs s ≤ 3 * 2 ^ 43 → unsigned_abs f ≤ 3 * 2 ^ 59 → unsigned_abs home ≤ BOX_LIMIT
    → unsigned_abs x ≤ BOX_LIMIT → unsigned_abs y ≤ BOX_LIMIT → unsigned_abs z ≤ BOX_LIMIT
    → Held (2 ^ 61) (kept w64 (kept w64 s -ℤ kept w64 f)) (weighted_sum x y z u v w -ℤ pos scale *ℤ home)
gap_held u v w scale x y z home s f s_is f_is s_in f_in home_in x_in y_in z_in =
    let sum_is : s ≡ weighted_sum x y z u v w =
    s_is
    ∙ (ap (λ (t : ℤ). weighted_sum t (kept w32 y) (kept w32 z) u v w) (read x x refl x_in)
    ∙ (ap (λ (t : ℤ). weighted_sum x t (kept w32 z) u v w) (read y y refl y_in)
    ∙ ap (λ (t : ℤ). weighted_sum x y t u v w) (read z z refl z_in))) in
    let one : Held (3 * 2 ^ 43) s (weighted_sum x y z u v w) =
    record { is = sum_is; within = subst (λ (t : ℤ). unsigned_abs t ≤ 3 * 2 ^ 43) sum_is s_in } in
    let far_is : f ≡ pos scale *ℤ home = times_read scale home f f_is home_in in
    let two : Held (3 * 2 ^ 59) f (pos scale *ℤ home) =
    record { is = far_is; within = subst (λ (t : ℤ). unsigned_abs t ≤ 3 * 2 ^ 59) far_is f_in } in
    let both : Held (3 * 2 ^ 43 + 3 * 2 ^ 59) (kept w64 s -ℤ kept w64 f) (weighted_sum x y z u v w -ℤ pos scale *ℤ home) =
    held_sub (held_kept w64 one tt) (held_kept w64 two tt) in
    let wide : Held (2 ^ 61) (kept w64 s -ℤ kept w64 f) (weighted_sum x y z u v w -ℤ pos scale *ℤ home) =
    record { is = both.is; within = omega (arith, both.within) } in
    held_kept w64 wide tt
