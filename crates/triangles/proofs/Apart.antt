-- From triangles back to faces.
use Rattle.std.proofs.Common.{ℕ, ◌≡◌, inl, inr, sym, ◌∙◌, ap, Bool, true, false, List, [], ◌∷◌}
use Rattle.std.specs.Bool.{OnTrue}
use Rattle.geo_sign.specs.Point.{Point}
use Rattle.triangles.specs.Shared.{weighted, Weights, IsShared}
use Rattle.triangles.specs.Settled.{AreCommon, AreSettled, AreMarks, IsTriangleOf}
use Rattle.triangles.specs.Gaps.{IsCommon, AreFacesApart}
use Rattle.triangles.specs.declared.corners.Triangle.{Triangle}
use Rattle.triangles.specs.declared.corners.Excluded.{Excluded}
use Rattle.triangles.specs.declared.corners.Marks.{Marks}

-- the same sum of points that are the same
weighted_same : (u v w : ℕ) {a b c d e f : Point} → d ≡ a → e ≡ b → f ≡ c → weighted d e f u v w ≡ weighted a b c u v w
weighted_same u v w {a} {b} {c} {d} {e} {f} p q r =
    ap (λ (x : Point). weighted x e f u v w) p
    ∙ (ap (λ (x : Point). weighted a x f u v w) q ∙ ap (λ (x : Point). weighted a b x u v w) r)

common : (f g : List ℕ) (m : Marks) (u v w : ℕ) → AreMarks f g m → AreCommon m u v w → IsCommon f g u v w
common [] g m u v w marks h = absurd marks
common (a ∷ []) g m u v w marks h = absurd marks
common (a ∷ b ∷ []) g m u v w marks h = absurd marks
common (a ∷ b ∷ c ∷ d ∷ x) g m u v w marks h = absurd marks
common (a ∷ b ∷ c ∷ []) g m u v w (p, q, r) h = (λ e. h.p (p ∙ e), λ e. h.q (q ∙ e), λ e. h.r (r ∙ e))

three : (points : List Point) (a b c d e h : ℕ) (s t : Triangle) (k : Excluded)
    → AreMarks (a ∷ b ∷ c ∷ []) (d ∷ e ∷ h ∷ []) k.one → AreMarks (d ∷ e ∷ h ∷ []) (a ∷ b ∷ c ∷ []) k.other
    → IsTriangleOf points (a ∷ b ∷ c ∷ []) s → IsTriangleOf points (d ∷ e ∷ h ∷ []) t → AreSettled s t k
    → AreFacesApart points (a ∷ b ∷ c ∷ []) (d ∷ e ∷ h ∷ [])
three points a b c d e h s t k marks others (sp, sq, sr) (tp, tq, tr) settled u v w x y z total place =
    let n : Weights = record { p = u; q = v; r = w; x = x; y = y; z = z } in
    let shared : IsShared s t n =
    record {
      total = total;
      place = weighted_same u v w sp sq sr ∙ (place ∙ sym (weighted_same x y z tp tq tr));
    } in
    elim (settled n shared) [
      | inl i ↦ inl (common (a ∷ b ∷ c ∷ []) (d ∷ e ∷ h ∷ []) k.one u v w marks i)
      | inr i ↦ inr (common (d ∷ e ∷ h ∷ []) (a ∷ b ∷ c ∷ []) k.other x y z others i)
    ]

pub apart : (points : List Point) (f g : List ℕ) (s t : Triangle) (k : Excluded) → AreMarks f g k.one → AreMarks g f k.other
    → IsTriangleOf points f s → IsTriangleOf points g t → AreSettled s t k → AreFacesApart points f g
apart points [] g s t k marks others i j settled = absurd marks
apart points (a ∷ []) g s t k marks others i j settled = absurd marks
apart points (a ∷ b ∷ []) g s t k marks others i j settled = absurd marks
apart points (a ∷ b ∷ c ∷ d ∷ x) g s t k marks others i j settled = absurd marks
apart points (a ∷ b ∷ c ∷ []) [] s t k marks others i j settled = absurd others
apart points (a ∷ b ∷ c ∷ []) (d ∷ []) s t k marks others i j settled = absurd others
apart points (a ∷ b ∷ c ∷ []) (d ∷ e ∷ []) s t k marks others i j settled = absurd others
apart points (a ∷ b ∷ c ∷ []) (d ∷ e ∷ h ∷ y ∷ x) s t k marks others i j settled = absurd others
apart points (a ∷ b ∷ c ∷ []) (d ∷ e ∷ h ∷ []) s t k marks others i j settled =
    three points a b c d e h s t k marks others i j settled

-- what follows where the answer is yes
pub on_yes : (b : Bool) {P Q : Type 0} → (P → Q) → OnTrue b P → OnTrue b Q
on_yes true f h = f h
on_yes false f h = tt
