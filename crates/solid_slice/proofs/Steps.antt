-- The numbers of a step, as the code computes them.
use Rattle.std.proofs.Common.{ℕ, ◌≡◌, ◌+◌, ◌*◌, ◌<◌, ◌≤◌, ap, ◌∙◌, subst, arith, true, false, List, length, get_or, ℤ, pos}
use Rattle.std.proofs.Common.{◌+ℤ◌, ◌-ℤ◌, ◌*ℤ◌, unsigned_abs}
use Rattle.std.specs.Int.Signed.{lt_z}
use Rattle.std.proofs.lemmas.Int.{ints}
use Rattle.std.proofs.lemmas.List.{get_or_default}
use mir.Syntax.{w32, w64}
use Rattle.geo_sign.specs.Point.{Point, IsWithin, origin}
use Rattle.geo_sign.proofs.Bounds.{Held, kept, held, held_kept, held_sub, held_add, held_mul}
use Rattle.mesh.specs.Meshes.{point_at}
use Rattle.solid_slice.specs.Cuts.{is_above}

-- a coordinate, read as 32 bits and stored as 64
pub held_coordinate : (r s z : ℤ) → r ≡ kept w32 s → s ≡ z → unsigned_abs z ≤ 8388608 → Held 8388608 (kept w64 r) z
held_coordinate r s z e f l = grind (arith, ints, held_kept)

-- the height is between those of the edge's ends
pub height_within : (h a b : ℤ) → lt_z h a ≡ false → lt_z h b ≡ true → unsigned_abs a ≤ 8388608 → unsigned_abs b ≤ 8388608
    → unsigned_abs h ≤ 8388608
height_within h a b e f l m = grind (arith, ints)

pub held_rise : {t u v w : ℤ} → Held 8388608 t v → Held 8388608 u w
    → Held (2 * (8388608 + 8388608)) (kept w64 (pos 2 *ℤ kept w64 (t -ℤ u))) (pos 2 *ℤ (v -ℤ w))
held_rise p q = held_kept w64 (held_mul (held 2 (pos 2) (omega arith)) (held_kept w64 (held_sub p q) tt)) tt

pub held_climb : {t u h w : ℤ} → Held 8388608 t h → Held 8388608 u w
    → Held (2 * 8388608 + 1 + 2 * 8388608) (kept w64 (kept w64 (pos 2 *ℤ t) +ℤ pos 1) -ℤ kept w64 (pos 2 *ℤ u))
    ((pos 2 *ℤ h +ℤ pos 1) -ℤ pos 2 *ℤ w)
held_climb p q =
    held_sub (held_kept w64
    (held_add (held_kept w64 (held_mul (held 2 (pos 2) (omega arith)) p) tt) (held 1 (pos 1) (omega arith))) tt)
    (held_kept w64 (held_mul (held 2 (pos 2) (omega arith)) q) tt)

pub along_is : {f t d c f' t' d' c' r : ℤ} → r ≡ f *ℤ d +ℤ (t -ℤ f) *ℤ c → f ≡ f' → t ≡ t' → d ≡ d' → c ≡ c'
    → r ≡ f' *ℤ d' +ℤ (t' -ℤ f') *ℤ c'
along_is e p q r s = cc

-- point i, which was read as p
module _ (points : List Point) (i : ℕ) (l : i < length points) (p : Point) (is : p ≡ get_or points i p)
    (within : IsWithin 8388608 p) where
  here : p ≡ point_at points i
  here = is ∙ get_or_default points i p origin l

  pub point_within : IsWithin 8388608 (point_at points i)
  point_within = subst (λ (q : Point). IsWithin 8388608 q) here within

  pub held_x : (r s : ℤ) → r ≡ kept w32 s → s ≡ p.x → Held 8388608 (kept w64 r) (point_at points i).x
  held_x r s stored e =
      held_coordinate r s (point_at points i).x stored (e ∙ ap (λ (q : Point). q.x) here) point_within.x_within

  pub held_y : (r s : ℤ) → r ≡ kept w32 s → s ≡ p.y → Held 8388608 (kept w64 r) (point_at points i).y
  held_y r s stored e =
      held_coordinate r s (point_at points i).y stored (e ∙ ap (λ (q : Point). q.y) here) point_within.y_within

  pub held_z : (r s : ℤ) → r ≡ kept w32 s → s ≡ p.z → Held 8388608 (kept w64 r) (point_at points i).z
  held_z r s stored e =
      held_coordinate r s (point_at points i).z stored (e ∙ ap (λ (q : Point). q.z) here) point_within.z_within

pub held_height : (points : List Point) (i j : ℕ) → IsWithin 8388608 (point_at points i) → IsWithin 8388608 (point_at points j)
    → (h r : ℤ) → is_above points h i ≡ false → is_above points h j ≡ true → r ≡ kept w32 h → Held 8388608 (kept w64 r) h
held_height points i j first second h r low high stored = grind (arith, ints, held_coordinate, height_within)
