-- Faces whose corners have the same points.
use Rattle.std.proofs.Common.{ℕ, ◌≡◌, ◌⊎◌, inl, inr, refl, ap, sym, subst, ◌∙◌, Bool, true, false, List, [], ◌∷◌, length}
use Rattle.geo_sign.specs.Point.{Point}
use Rattle.mesh.specs.Meshes.{point_at}
use Rattle.triangles.specs.Hulls.{HoldsPoint}
use Rattle.triangles.specs.declared.hull.Hull.{Hull}
use Rattle.triangles.specs.Gaps.{AreFacesApart}
use Rattle.triangles.specs.Shared.{weighted}
use Rattle.mesh_flips.specs.Fields.{HoldsFace}
use Rattle.mesh_smooth.specs.Rounds.{flag, IsStill, HasGoneBack, IsUnflagged}

-- the same sum of points that are the same
pub weighted_same : (u v w : ℕ) {a b c d e f : Point} → d ≡ a → e ≡ b → f ≡ c → weighted d e f u v w ≡ weighted a b c u v w
weighted_same u v w {a} {b} {c} {d} {e} {f} p q r =
    ap (λ (x : Point). weighted x e f u v w) p
    ∙ (ap (λ (x : Point). weighted a x f u v w) q ∙ ap (λ (x : Point). weighted a b x u v w) r)

-- they are apart if they were
pub still_apart : (old new : List Point) (f g : List ℕ) → IsStill old new f → IsStill old new g → AreFacesApart old f g
    → AreFacesApart new f g
still_apart old new [] g i j h = absurd i
still_apart old new (a ∷ []) g i j h = absurd i
still_apart old new (a ∷ b ∷ []) g i j h = absurd i
still_apart old new (a ∷ b ∷ c ∷ d ∷ x) g i j h = absurd i
still_apart old new (a ∷ b ∷ c ∷ []) [] i j h = absurd j
still_apart old new (a ∷ b ∷ c ∷ []) (d ∷ []) i j h = absurd j
still_apart old new (a ∷ b ∷ c ∷ []) (d ∷ e ∷ []) i j h = absurd j
still_apart old new (a ∷ b ∷ c ∷ []) (d ∷ e ∷ f ∷ y ∷ x) i j h = absurd j
still_apart old new (a ∷ b ∷ c ∷ []) (d ∷ e ∷ f ∷ []) (pa, pb, pc) (pd, pe, pf) h = λ u v w x y z total place.
    h u v w x y z total (weighted_same u v w (sym pa) (sym pb) (sym pc) ∙ (place ∙ weighted_same x y z pd pe pf))

-- a box of the one is a box of the other
pub still_held : (old new : List Point) (h : Hull) (f : List ℕ) → IsStill old new f → HoldsFace old h f → HoldsFace new h f
still_held old new h [] i holds = absurd i
still_held old new h (a ∷ []) i holds = absurd i
still_held old new h (a ∷ b ∷ []) i holds = absurd i
still_held old new h (a ∷ b ∷ c ∷ d ∷ x) i holds = absurd i
still_held old new h (a ∷ b ∷ c ∷ []) (pa, pb, pc) (ha, hb, hc) = (
  subst (λ (p : Point). HoldsPoint h p) (sym pa) ha,
  subst (λ (p : Point). HoldsPoint h p) (sym pb) hb,
  subst (λ (p : Point). HoldsPoint h p) (sym pc) hc,
)

-- a face without a flagged corner stays
pub unflagged_still : (before old new : List Point) (flags more : List Bool) (f : List ℕ) → HasGoneBack before old new flags more
    → IsUnflagged more f → IsStill old new f
unflagged_still before old new flags more [] back i = absurd i
unflagged_still before old new flags more (a ∷ []) back i = absurd i
unflagged_still before old new flags more (a ∷ b ∷ []) back i = absurd i
unflagged_still before old new flags more (a ∷ b ∷ c ∷ d ∷ x) back i = absurd i
unflagged_still before old new flags more (a ∷ b ∷ c ∷ []) back (fa, fb, fc) = (back.same a fa, back.same b fb, back.same c fc)
