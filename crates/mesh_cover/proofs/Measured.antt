-- Distances as the code computes them.
--
-- A coordinate of a part is at most 2^40 in absolute value, one of a face 2^23, the weights have the sum 2^20, and the scale is at most
-- 2^12. So both products are at most 2^60, their difference at most 2^61, its square 2^122, and no sum of three wraps.
use Rattle.std.proofs.Common.{ℕ, ◌≡◌, ◌+◌, ◌*◌, ◌≤◌, ◌^◌, ap, sym, subst, ◌∙◌, arith, T, ltb}
use Rattle.std.proofs.Common.{ℤ, pos, unsigned_abs, ◌+ℤ◌, ◌-ℤ◌, ◌*ℤ◌, ◌≤ℤ◌}
use Rattle.std.proofs.Math.IntN.{pos-+ℤ-pos}
use Rattle.std.proofs.lemmas.Int.{ints}
use mir.Syntax.{Width, w32, w64}
use mir.Val.{hbits}
use Rattle.geo_sign.specs.Point.{Point}
use Rattle.geo_sign.specs.declared.point.TheConstants.{BOX_LIMIT}
use Rattle.geo_sign.proofs.Bounds.{kept, Held, held_kept}
use Rattle.triangles.specs.Shared.{weighted_sum}
use Rattle.mesh_cover.specs.Parts.{IsNearBy}

-- a coordinate that is passed on
read : (w : Width) (m : ℕ) (t x : ℤ) → t ≡ x → unsigned_abs x ≤ m → T (ltb m (2 ^ hbits w)) → kept w t ≡ x
read w m t x is within fits =
    let before : Held m t x = record { is = is; within = within } in
    (held_kept w before fits).is

-- on one axis: a sum of weighted coordinates times a scale, less a coordinate times the sum of the weights
abbrev pub gap_of : (scale u v w : ℕ) → (x y z q : ℤ) → ℤ
gap_of scale u v w x y z q = pos scale *ℤ weighted_sum x y z u v w -ℤ pos (2 ^ 20) *ℤ q

-- the square of a difference of coordinates that are passed on
pub square_read : (scale u v w r : ℕ) (q x y z s a b c : ℤ)
    → pos r ≡ gap_of scale u v w (kept w32 a) (kept w32 b) (kept w32 c) (kept w64 s) *ℤ gap_of scale u v w (kept w32 a) (kept w32 b) (kept w32 c) (kept w64 s)
    → s ≡ q → a ≡ x → b ≡ y → c ≡ z → unsigned_abs q ≤ 2 ^ 40 → unsigned_abs x ≤ BOX_LIMIT → unsigned_abs y ≤ BOX_LIMIT
    → unsigned_abs z ≤ BOX_LIMIT
    → pos r ≡ gap_of scale u v w x y z q *ℤ gap_of scale u v w x y z q
square_read scale u v w r q x y z s a b c is s_is a_is b_is c_is q_in x_in y_in z_in =
    is ∙ ap (λ (d : ℤ). d *ℤ d)
    (ap (λ (t : ℤ). gap_of scale u v w t (kept w32 b) (kept w32 c) (kept w64 s)) (read w32 BOX_LIMIT a x a_is x_in tt)
    ∙ (ap (λ (t : ℤ). gap_of scale u v w x t (kept w32 c) (kept w64 s)) (read w32 BOX_LIMIT b y b_is y_in tt)
    ∙ (ap (λ (t : ℤ). gap_of scale u v w x y t (kept w64 s)) (read w32 BOX_LIMIT c z c_is z_in tt)
    ∙ ap (λ (t : ℤ). gap_of scale u v w x y z t) (read w64 (2 ^ 40) s q s_is q_in tt))))

-- a sum of squares is compared with a square
pub near_by : (within m u v w x y z reach : ℕ) (q a b c : Point) → u + v + w ≡ 2 ^ 20
    → pos x ≡ gap_of m u v w a.x b.x c.x q.x *ℤ gap_of m u v w a.x b.x c.x q.x
    → pos y ≡ gap_of m u v w a.y b.y c.y q.y *ℤ gap_of m u v w a.y b.y c.y q.y
    → pos z ≡ gap_of m u v w a.z b.z c.z q.z *ℤ gap_of m u v w a.z b.z c.z q.z
    → reach ≡ m * 2 ^ 20 * within * (m * 2 ^ 20 * within) → x + y + z ≤ reach
    → IsNearBy within m q a b c u v w
near_by within m u v w x y z reach q a b c total x_is y_is z_is reach_is below =
    record {
      total = total;
      near =
          subst (λ (s : ℤ). s ≤ℤ pos (m * 2 ^ 20 * within * (m * 2 ^ 20 * within))) sum
          (subst (λ (n : ℕ). pos (x + y + z) ≤ℤ pos n) reach_is (le_pos (x + y + z) reach below));
    }
  where
    le_pos : (m n : ℕ) → m ≤ n → pos m ≤ℤ pos n
    le_pos m n h = omega (arith, ints)

    sum : pos (x + y + z)
        ≡ gap_of m u v w a.x b.x c.x q.x *ℤ gap_of m u v w a.x b.x c.x q.x +ℤ gap_of m u v w a.y b.y c.y q.y *ℤ gap_of m u v w a.y b.y c.y q.y
        +ℤ gap_of m u v w a.z b.z c.z q.z *ℤ gap_of m u v w a.z b.z c.z q.z
    sum =
        sym (ap (λ (s : ℤ). s +ℤ pos z) (pos-+ℤ-pos x y) ∙ pos-+ℤ-pos (x + y) z)
        ∙ (ap (λ (s : ℤ). s +ℤ pos y +ℤ pos z) x_is
        ∙ (ap (λ (s : ℤ). gap_of m u v w a.x b.x c.x q.x *ℤ gap_of m u v w a.x b.x c.x q.x +ℤ s +ℤ pos z) y_is
        ∙ ap (λ (s : ℤ). gap_of m u v w a.x b.x c.x q.x *ℤ gap_of m u v w a.x b.x c.x q.x
        +ℤ gap_of m u v w a.y b.y c.y q.y *ℤ gap_of m u v w a.y b.y c.y q.y +ℤ s) z_is))
