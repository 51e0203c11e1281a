-- Distances as the code computes them.
--
-- A coordinate is below 2^24 in absolute value and `fine` below 2^32, so a difference on the finer grid is at most 2^56, its square at
-- most 2^112, and no sum of three wraps.
use Rattle.std.proofs.Common.{ℕ, ◌≡◌, ◌+◌, ◌*◌, ◌≤◌, ◌^◌, ◌↔◌, ap, ap₂, sym, subst, ◌∙◌, arith}
use Rattle.std.proofs.Common.{ℤ, pos, unsigned_abs, ◌+ℤ◌, ◌-ℤ◌, ◌*ℤ◌, ◌≤ℤ◌, IsTrue}
use Rattle.std.proofs.Math.Dec.{leb}
use Rattle.std.proofs.Math.IntN.{pos-+ℤ-pos}
use Rattle.std.proofs.lemmas.Bool.{leb-true, le-leb}
use Rattle.std.proofs.lemmas.Int.{ints}
use mir.Syntax.{w32, w64}
use Rattle.geo_sign.specs.Point.{Point}
use Rattle.geo_sign.specs.declared.point.TheConstants.{BOX_LIMIT}
use Rattle.geo_sign.proofs.Bounds.{kept, Held, held, held_kept, held_mul, held_sub}
use Rattle.mesh_check.specs.Homes.{IsNearHome}

-- a difference of coordinates
pub gap_held : (fine : ℕ) (home x a b d : ℤ) → a ≡ kept w32 x → b ≡ pos fine → d ≡ kept w32 home → fine ≤ 2 ^ 32
    → unsigned_abs home ≤ BOX_LIMIT → unsigned_abs x ≤ BOX_LIMIT
    → Held (2 ^ 23 + 2 ^ 32 * 2 ^ 23) (kept w64 (kept w64 a -ℤ kept w64 (kept w64 b *ℤ kept w64 d))) (x -ℤ pos fine *ℤ home)
gap_held fine home x a b d a_is b_is d_is few home_in x_in =
    let x_read : Held (2 ^ 23) (kept w32 x) x = held_kept w32 (held (2 ^ 23) x x_in) tt in
    let home_read : Held (2 ^ 23) (kept w32 home) home = held_kept w32 (held (2 ^ 23) home home_in) tt in
    let x_wide : Held (2 ^ 23) a x = record { is = a_is ∙ x_read.is; within = x_in } in
    let home_wide : Held (2 ^ 23) d home = record { is = d_is ∙ home_read.is; within = home_in } in
    let fine_wide : Held (2 ^ 32) b (pos fine) = record { is = b_is; within = few } in
    held_kept w64 (held_sub (held_kept w64 x_wide tt) (held_kept w64 (held_mul (held_kept w64 fine_wide tt) (held_kept w64 home_wide tt)) tt)) tt

-- a coordinate that is passed on
read : (t x : ℤ) → t ≡ x → unsigned_abs x ≤ BOX_LIMIT → kept w32 t ≡ x
read t x is within =
    let before : Held (2 ^ 23) t x = record { is = is; within = within } in
    (held_kept w32 before tt).is

-- the square of a difference of coordinates that are passed on
pub square_read : (fine r : ℕ) (home x s t : ℤ)
    → pos r ≡ (kept w32 t -ℤ pos fine *ℤ kept w32 s) *ℤ (kept w32 t -ℤ pos fine *ℤ kept w32 s) → s ≡ home → t ≡ x
    → unsigned_abs home ≤ BOX_LIMIT → unsigned_abs x ≤ BOX_LIMIT
    → pos r ≡ (x -ℤ pos fine *ℤ home) *ℤ (x -ℤ pos fine *ℤ home)
square_read fine r home x s t is s_is t_is home_in x_in =
    is
    ∙ ap₂ (λ (a b : ℤ). (a -ℤ pos fine *ℤ b) *ℤ (a -ℤ pos fine *ℤ b)) (read t x t_is x_in) (read s home s_is home_in)

-- a sum of squares is compared with a square
pub near_exactly : (fine within x y z reach : ℕ) (home p : Point)
    → pos x ≡ (p.x -ℤ pos fine *ℤ home.x) *ℤ (p.x -ℤ pos fine *ℤ home.x)
    → pos y ≡ (p.y -ℤ pos fine *ℤ home.y) *ℤ (p.y -ℤ pos fine *ℤ home.y)
    → pos z ≡ (p.z -ℤ pos fine *ℤ home.z) *ℤ (p.z -ℤ pos fine *ℤ home.z) → reach ≡ fine * within * (fine * within)
    → IsTrue (leb (x + y + z) reach) ↔ IsNearHome fine within home p
near_exactly fine within x y z reach home p x_is y_is z_is reach_is =
    let sum : pos (x + y + z) ≡ (p.x -ℤ pos fine *ℤ home.x) *ℤ (p.x -ℤ pos fine *ℤ home.x)
    +ℤ (p.y -ℤ pos fine *ℤ home.y) *ℤ (p.y -ℤ pos fine *ℤ home.y) +ℤ (p.z -ℤ pos fine *ℤ home.z) *ℤ (p.z -ℤ pos fine *ℤ home.z) =
    sym (ap (λ (s : ℤ). s +ℤ pos z) (pos-+ℤ-pos x y) ∙ pos-+ℤ-pos (x + y) z)
    ∙ (ap (λ (s : ℤ). s +ℤ pos y +ℤ pos z) x_is
    ∙ (ap (λ (s : ℤ). (p.x -ℤ pos fine *ℤ home.x) *ℤ (p.x -ℤ pos fine *ℤ home.x) +ℤ s +ℤ pos z) y_is
    ∙ ap (λ (s : ℤ). (p.x -ℤ pos fine *ℤ home.x) *ℤ (p.x -ℤ pos fine *ℤ home.x) +ℤ (p.y -ℤ pos fine *ℤ home.y) *ℤ (p.y -ℤ pos fine *ℤ home.y) +ℤ s) z_is)) in (
      λ yes.
          subst (λ (s : ℤ). s ≤ℤ pos (fine * within * (fine * within))) sum
          (subst (λ (n : ℕ). pos (x + y + z) ≤ℤ pos n) reach_is (le_pos _ _ (leb-true (x + y + z) reach yes))),
      λ near.
          le-leb (x + y + z) reach
          (pos_le _ _ (subst (λ (n : ℕ). pos (x + y + z) ≤ℤ pos n) (sym reach_is) (subst (λ (s : ℤ). s ≤ℤ pos (fine * within * (fine * within))) (sym sum) near))),
    )
  where
    le_pos : (m n : ℕ) → m ≤ n → pos m ≤ℤ pos n
    le_pos m n h = omega (arith, ints)

    pos_le : (m n : ℕ) → pos m ≤ℤ pos n → m ≤ n
    pos_le m n h = omega (arith, ints)
