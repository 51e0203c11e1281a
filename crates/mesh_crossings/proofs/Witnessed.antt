-- Weights that give one point of two faces, off their common corners.
use Rattle.std.proofs.Common.{ℕ, ◌≡◌, ◌+◌, inl, inr, ap, sym, ◌∙◌, List, [], ◌∷◌, ℤ, FitsSigned}
use Rattle.std.proofs.lemmas.Int.{to_z-of_z}
use mir.Syntax.{w32, w128}
use Rattle.geo_sign.proofs.Bounds.{kept}
use Rattle.geo_sign.specs.Point.{Point, point}
use Rattle.mesh.specs.Meshes.{point_at}
use Rattle.triangles.specs.Gaps.{AreFacesApart, IsCommon}
use Rattle.triangles.specs.Shared.{weighted, weighted_sum}
use Rattle.mesh_crossings.specs.Tested.{IsCornersOf}
use Rattle.mesh_crossings.specs.declared.witness.Corners.{Corners}

-- the same sum of points that are the same
weighted_same : (u v w : ℕ) (a b c d e f : Point) → a ≡ d → b ≡ e → c ≡ f → weighted a b c u v w ≡ weighted d e f u v w
weighted_same u v w a b c d e f p q r =
    ap (λ (x : Point). weighted x b c u v w) p
    ∙ (ap (λ (x : Point). weighted d x c u v w) q ∙ ap (λ (x : Point). weighted d e x u v w) r)

-- three coordinates that are the same
pub point_same : (a b c d e f : ℤ) → a ≡ d → b ≡ e → c ≡ f → point a b c ≡ point d e f
point_same a b c d e f p q r =
    ap (λ (x : ℤ). point x b c) p ∙ (ap (λ (x : ℤ). point d x c) q ∙ ap (λ (x : ℤ). point d e x) r)

-- the same sum of numbers that are the same
sum_same : (u v w : ℕ) (a b c d e f : ℤ) → a ≡ d → b ≡ e → c ≡ f → weighted_sum a b c u v w ≡ weighted_sum d e f u v w
sum_same u v w a b c d e f p q r =
    ap (λ (x : ℤ). weighted_sum x b c u v w) p
    ∙ (ap (λ (x : ℤ). weighted_sum d x c u v w) q ∙ ap (λ (x : ℤ). weighted_sum d e x u v w) r)

-- a sum of coordinates as they are passed
pub read_sum : (a b c r : ℤ) (u v w : ℕ) → FitsSigned w32 a → FitsSigned w32 b → FitsSigned w32 c
    → r ≡ weighted_sum (kept w32 a) (kept w32 b) (kept w32 c) u v w → r ≡ weighted_sum a b c u v w
read_sum a b c r u v w p q t e =
    e ∙ sum_same u v w (kept w32 a) (kept w32 b) (kept w32 c) a b c (to_z-of_z w32 a p) (to_z-of_z w32 b q) (to_z-of_z w32 c t)

-- two equal sums of coordinates as they are passed
pub read_same : (u v w x y z : ℕ) (r a b c d e f k l m n o p : ℤ) → FitsSigned w128 r → FitsSigned w32 a → FitsSigned w32 b
    → FitsSigned w32 c → FitsSigned w32 d → FitsSigned w32 e → FitsSigned w32 f → a ≡ k → b ≡ l → c ≡ m → d ≡ n → e ≡ o → f ≡ p
    → r ≡ weighted_sum (kept w32 a) (kept w32 b) (kept w32 c) u v w
    → kept w128 r ≡ weighted_sum (kept w32 d) (kept w32 e) (kept w32 f) x y z → weighted_sum k l m u v w ≡ weighted_sum n o p x y z
read_same u v w x y z r a b c d e f k l m n o p fr fa fb fc fd fe ff ak bl cm dn eo fp is same =
    sym
    (is
    ∙ sum_same u v w (kept w32 a) (kept w32 b) (kept w32 c) k l m (to_z-of_z w32 a fa ∙ ak) (to_z-of_z w32 b fb ∙ bl)
    (to_z-of_z w32 c fc ∙ cm))
    ∙ (sym (to_z-of_z w128 r fr)
    ∙ (same
    ∙ sum_same x y z (kept w32 d) (kept w32 e) (kept w32 f) n o p (to_z-of_z w32 d fd ∙ dn) (to_z-of_z w32 e fe ∙ eo)
    (to_z-of_z w32 f ff ∙ fp)))

pub crossed : (points : List Point) (f g : List ℕ) (s t : Corners) (u v w x y z : ℕ) → IsCornersOf points f s → IsCornersOf points g t
    → u + v + w ≡ x + y + z → weighted s.a s.b s.c u v w ≡ weighted t.a t.b t.c x y z → (IsCommon f g u v w → ⊥)
    → (IsCommon g f x y z → ⊥) → AreFacesApart points f g → ⊥
crossed points [] g s t u v w x y z i j total same one other apart = i
crossed points (a ∷ []) g s t u v w x y z i j total same one other apart = i
crossed points (a ∷ b ∷ []) g s t u v w x y z i j total same one other apart = i
crossed points (a ∷ b ∷ c ∷ d ∷ k) g s t u v w x y z i j total same one other apart = i
crossed points (a ∷ b ∷ c ∷ []) [] s t u v w x y z i j total same one other apart = j
crossed points (a ∷ b ∷ c ∷ []) (d ∷ []) s t u v w x y z i j total same one other apart = j
crossed points (a ∷ b ∷ c ∷ []) (d ∷ e ∷ []) s t u v w x y z i j total same one other apart = j
crossed points (a ∷ b ∷ c ∷ []) (d ∷ e ∷ h ∷ k ∷ l) s t u v w x y z i j total same one other apart = j
crossed points (a ∷ b ∷ c ∷ []) (d ∷ e ∷ h ∷ []) s t u v w x y z (sa, sb, sc) (ta, tb, tc) total same one other apart =
    elim
    (apart u v w x y z total
    (sym (weighted_same u v w s.a s.b s.c (point_at points a) (point_at points b) (point_at points c) sa sb sc)
    ∙ (same ∙ weighted_same x y z t.a t.b t.c (point_at points d) (point_at points e) (point_at points h) ta tb tc))) [
      | inl i ↦ one i
      | inr i ↦ other i
    ]
