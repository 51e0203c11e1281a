-- Bounds on what the code computes.
--
--   kept w z       z as the code stores it in a number of width w
--   Held m t z     t is the number z, whose absolute value is at most m
use Rattle.std.proofs.Common.{ℕ, ◌+◌, ◌*◌, ◌≤◌, ◌<◌, ◌^◌, ◌≡◌, ℤ, ◌+ℤ◌, ◌-ℤ◌, ◌*ℤ◌, unsigned_abs, arith, FitsSigned, to_z, of_z}
use Rattle.std.proofs.Common.{mul-le-mul, lt_of_le_of_lt, subst, ap, ap₂, sym, refl, ◌∙◌, T, ltb, ltb→lt}
use Rattle.std.proofs.lemmas.Int.{ints, unsigned_abs-mul, fits_signed_from_abs, to_z-of_z}
use mir.Syntax.{Width}
use mir.Val.{hbits}
use Rattle.geo_sign.specs.Point.{Point, point, IsWithin, step, cross, dot}
use Rattle.geo_sign.specs.Orientation.{orientation}
use Rattle.geo_sign.specs.declared.point.TheConstants.{BOX_LIMIT, DATA_LIMIT}

pub abs_add : (a b : ℤ) (m n : ℕ) → unsigned_abs a ≤ m → unsigned_abs b ≤ n → unsigned_abs (a +ℤ b) ≤ m + n
abs_add a b m n h k = omega (arith, ints)

pub abs_sub : (a b : ℤ) (m n : ℕ) → unsigned_abs a ≤ m → unsigned_abs b ≤ n → unsigned_abs (a -ℤ b) ≤ m + n
abs_sub a b m n h k = omega (arith, ints)

pub abs_mul : (a b : ℤ) (m n : ℕ) → unsigned_abs a ≤ m → unsigned_abs b ≤ n → unsigned_abs (a *ℤ b) ≤ m * n
abs_mul a b m n h k = rw unsigned_abs-mul (mul-le-mul h k)

abbrev pub kept : Width → ℤ → ℤ
kept w z = to_z w (of_z w z)

pub record Held (m : ℕ) (t z : ℤ) : Type 0 where
  pub is : t ≡ z
  pub within : unsigned_abs z ≤ m

pub fits_held : (w : Width) {m : ℕ} {t z : ℤ} → Held m t z → T (ltb m (2 ^ hbits w)) → FitsSigned w t
fits_held w {m} {t} {z} h k = grind (arith, ints, fits_signed_from_abs, lt_of_le_of_lt, ltb→lt)

pub held : (m : ℕ) (z : ℤ) → unsigned_abs z ≤ m → Held m z z
held m z h = record { is = refl; within = h }

pub held_kept : (w : Width) {m : ℕ} {t z : ℤ} → Held m t z → T (ltb m (2 ^ hbits w)) → Held m (kept w t) z
held_kept w {m} {t} {z} h k = record { is = to_z-of_z w t (fits_held w h k) ∙ h.is; within = h.within }

pub held_mul : {m n : ℕ} {s t a b : ℤ} → Held m s a → Held n t b → Held (m * n) (s *ℤ t) (a *ℤ b)
held_mul {m} {n} {s} {t} {a} {b} h k = record { is = ap₂ (λ x y. x *ℤ y) h.is k.is; within = abs_mul a b m n h.within k.within }

pub held_add : {m n : ℕ} {s t a b : ℤ} → Held m s a → Held n t b → Held (m + n) (s +ℤ t) (a +ℤ b)
held_add {m} {n} {s} {t} {a} {b} h k = record { is = ap₂ (λ x y. x +ℤ y) h.is k.is; within = abs_add a b m n h.within k.within }

pub held_sub : {m n : ℕ} {s t a b : ℤ} → Held m s a → Held n t b → Held (m + n) (s -ℤ t) (a -ℤ b)
held_sub {m} {n} {s} {t} {a} {b} h k = record { is = ap₂ (λ x y. x -ℤ y) h.is k.is; within = abs_sub a b m n h.within k.within }

pub within_held : {m : ℕ} {t z : ℤ} → Held m t z → unsigned_abs t ≤ m
within_held {m} {t} {z} h = subst (λ (y : ℤ). unsigned_abs y ≤ m) (sym h.is) h.within

-- a b as the code computes it
pub held_product : (w : Width) (a b : ℤ) {m n : ℕ} → unsigned_abs a ≤ m → unsigned_abs b ≤ n → T (ltb m (2 ^ hbits w))
    → T (ltb n (2 ^ hbits w))
    → Held (m * n) (kept w a *ℤ kept w b) (a *ℤ b)
held_product w a b {m} {n} h k i j = held_mul (held_kept w (held m a h) i) (held_kept w (held n b k) j)

pub same_place : (a b c d e f : ℤ) → a ≡ d → b ≡ e → c ≡ f → point a b c ≡ point d e f
same_place a b c d e f p q r = ap (λ u. point u b c) p ∙ ap (λ u. point d u c) q ∙ ap (λ u. point d e u) r

pub within_of : (m : ℕ) (p q : Point) → p ≡ q → IsWithin m q → IsWithin m p
within_of m p q e h = subst (λ (r : Point). IsWithin m r) (sym e) h

-- a minor of two vectors between points
pub minor_within : (a b c d : ℤ) → unsigned_abs a ≤ 2 ^ 24 → unsigned_abs b ≤ 2 ^ 24 → unsigned_abs c ≤ 2 ^ 24
    → unsigned_abs d ≤ 2 ^ 24 → unsigned_abs (a *ℤ d -ℤ b *ℤ c) ≤ 2 ^ 49
minor_within a b c d h i j k = grind (arith, ints, abs_sub, abs_mul)

pub minor_held : (u v : Point) (m : ℤ) → m ≡ (cross u v).z → IsWithin (2 ^ 24) u → IsWithin (2 ^ 24) v
    → Held (2 ^ 49) m ((cross u v).z)
minor_held u v m e h k = record { is = e; within = minor_within u.x u.y v.x v.y h.x_within h.y_within k.x_within k.y_within }

-- a vector product of vectors between points, and its scalar product with one
pub cross_within : (u v : Point) → IsWithin (2 ^ 24) u → IsWithin (2 ^ 24) v → IsWithin (2 ^ 49) (cross u v)
cross_within u v h k = grind (arith, minor_within)

pub dot_within : (u v : Point) → IsWithin (2 ^ 49) u → IsWithin (2 ^ 24) v → unsigned_abs (dot u v) ≤ 3 * 2 ^ 73
dot_within u v h k = grind (arith, abs_add, abs_mul)

pub step_within : (a b : Point) → IsWithin BOX_LIMIT a → IsWithin BOX_LIMIT b → IsWithin (2 ^ 24) (step a b)
step_within a b h k = grind (arith, abs_sub)

-- the orientation of points of the box
pub orientation_bound : (a b c d : Point) → IsWithin BOX_LIMIT a → IsWithin BOX_LIMIT b → IsWithin BOX_LIMIT c
    → IsWithin BOX_LIMIT d → unsigned_abs (orientation a b c d) < 2 ^ 75
unfolding orientation
orientation_bound a b c d h i j k =
    lt_of_le_of_lt
    (dot_within (cross (step a b) (step a c)) (step a d)
    (cross_within (step a b) (step a c) (step_within a b h i) (step_within a c h j)) (step_within a d h k))
    (ltb→lt (3 * 2 ^ 73) (2 ^ 75) tt)

-- data points are well inside the box
pub data_in_box : (p : Point) → IsWithin DATA_LIMIT p → IsWithin BOX_LIMIT p
data_in_box p h = grind arith
