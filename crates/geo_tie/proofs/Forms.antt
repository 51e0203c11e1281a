-- Tests of four vertices by their signs and by all vertices.
use Rattle.std.proofs.Common.{ℕ, ◌<◌, ◌≡◌, ◌↔◌, refl, ap, sym, ◌∙◌, inl, inr, ⊎_elim, arith, Bool, true}
use Rattle.std.proofs.Common.{false, true≢false, IsTrue, pos, ◌≤ℤ◌, ◌<ℤ◌, List, length, get_or}
use Rattle.std.proofs.Common.{◌+◌, ◌++◌}
use Rattle.std.proofs.lemmas.Int.{ints}
use Rattle.std.proofs.lemmas.List.{get_or_default}
use Rattle.geo_sign.specs.declared.point.TheConstants.{CORNERS}
use Rattle.geo_sign.specs.declared.sign.Sign.{Sign}
use Rattle.geo_sign.specs.Point.{Point, origin}
use Rattle.geo_sign.specs.Orientation.{orientation}
use Rattle.geo_sign.specs.Signs.{sign_of}
use Rattle.geo_sign.specs.Tie.{height}
use Rattle.geo_sign.specs.Vertices.{Vertices, orientation_of, power_of, corners, point_of, boxed_vertices}
use Rattle.geo_sign.specs.Cells.{IsCell, FormCell}
use Rattle.geo_tie.specs.Rising.{all_at}
use Rattle.geo_sign.proofs.Own.{last_exchanged}

-- ---- the test for conflict, turned
-- what the code read at four numbers
pub read_sign : (points : List Point) (a b c d : ℕ) (p q r s : Point) (t : Sign) → p ≡ get_or points a p → q ≡ get_or points b q
    → r ≡ get_or points c r → s ≡ get_or points d s
    → a < length points → b < length points → c < length points → d < length points → t ≡ sign_of (orientation p q r s)
    → t ≡ sign_of (orientation_of (all_at points) a b c d)
read_sign points a b c d p q r s t i j k l m n o u e =
    e ∙ ap (λ (x : Point). sign_of (orientation x q r s)) (i ∙ get_or_default points a p origin m)
    ∙ ap (λ (x : Point). sign_of (orientation (get_or points a origin) x r s)) (j ∙ get_or_default points b q origin n)
    ∙ ap (λ (x : Point). sign_of (orientation (get_or points a origin) (get_or points b origin) x s))
    (k ∙ get_or_default points c r origin o)
    ∙ ap (λ (x : Point). sign_of (orientation (get_or points a origin) (get_or points b origin) (get_or points c origin) x))
    (l ∙ get_or_default points d s origin u)

-- ---- the three answers
abbrev IsClear : List Point → (a b c d : ℕ) → Type 0
IsClear points a b c d = (u : ℕ) → u < length points → pos 0 ≤ℤ power_of (all_at points) a b c d u

cell_of : (points : List Point) (a b c d : ℕ) → a < length points → b < length points → c < length points → d < length points
    → pos 0 <ℤ orientation_of (all_at points) a b c d
    → IsClear points a b c d → IsCell (all_at points) a b c d
cell_of points a b c d i j k l o h =
    record { has_a = (i, refl); has_b = (j, refl); has_c = (k, refl); has_d = (l, refl); positive = o; clear = λ u m. h u m.0 }

pub form_above : (points : List Point) (a b c d : ℕ) (r : Bool) → a < length points → b < length points → c < length points
    → d < length points → pos 0 <ℤ orientation_of (all_at points) a b c d
    → (IsTrue r ↔ IsClear points a b c d) → IsTrue r ↔ FormCell (all_at points) a b c d
form_above points a b c d r i j k l o h =
    let e = last_exchanged (all_at points) a b c d in (
      λ t. inl (cell_of points a b c d i j k l o (h.0 t)),
      λ f. ⊎_elim (λ (x : IsCell (all_at points) a b c d). h.1 (λ u m. x.clear u (m, refl)))
          (λ (x : IsCell (all_at points) a b d c). let y = x.positive in absurd (omega (arith, ints, e, y, o))) f,
    )

pub form_below : (points : List Point) (a b c d : ℕ) (r : Bool) → a < length points → b < length points → c < length points
    → d < length points → orientation_of (all_at points) a b c d <ℤ pos 0
    → (IsTrue r ↔ IsClear points a b d c) → IsTrue r ↔ FormCell (all_at points) a b c d
form_below points a b c d r i j k l o h =
    let e = last_exchanged (all_at points) a b c d in
    let p : pos 0 <ℤ orientation_of (all_at points) a b d c = omega (arith, ints, e, o) in (
      λ t. inr (cell_of points a b d c i j l k p (h.0 t)),
      λ f. ⊎_elim (λ (x : IsCell (all_at points) a b c d). let y = x.positive in absurd (omega (arith, ints, y, o)))
          (λ (x : IsCell (all_at points) a b d c). h.1 (λ u m. x.clear u (m, refl))) f,
    )

pub form_flat : (points : List Point) (a b c d : ℕ) → orientation_of (all_at points) a b c d ≡ pos 0 → IsTrue false
    ↔ FormCell (all_at points) a b c d
form_flat points a b c d o =
    let e = last_exchanged (all_at points) a b c d in (
      λ t. absurd (true≢false (sym t)),
      λ f. ⊎_elim (λ (x : IsCell (all_at points) a b c d). let y = x.positive in absurd (omega (arith, ints, y, o)))
          (λ (x : IsCell (all_at points) a b d c). let y = x.positive in absurd (omega (arith, ints, e, y, o))) f,
    )

-- ---- the corners and the points after them
pub all_with_corners : (points : List Point) → all_at (corners ++ points) ≡ boxed_vertices points
all_with_corners points =
    let e : length (corners ++ points) ≡ CORNERS + length points = omega arith in
    let counted : ℕ → Vertices =
    λ n. record { at = point_of points; high = λ u. height n u (point_of points u); count = n; is_in = λ _. true } in
    ap counted e
