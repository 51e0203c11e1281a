-- A mesh covers itself: each point of a face is a point of that face.
use Rattle.std.proofs.Common.{ℕ, ◌≡◌, ◌+◌, ◌*◌, ◌<◌, ap, sym, subst, ◌∙◌, arith, List, [], ◌∷◌, length}
use Rattle.std.proofs.Common.{ℤ, pos, ◌+ℤ◌, ◌-ℤ◌, ◌*ℤ◌, ◌≤ℤ◌}
use Rattle.std.specs.List.{All}
use Rattle.std.proofs.lemmas.Int.{ints}
use Rattle.std.proofs.lemmas.List.{get_or_default}
use Rattle.geo_sign.specs.Point.{Point, step, square}
use Rattle.geo_sign.specs.Polynomial.{variable, constant, product}
use Rattle.geo_sign.proofs.Ring.{ring}
use Rattle.mesh.specs.Meshes.{IsFace, point_at}
use Rattle.mesh_edges.specs.Edges.{face_at}
use Rattle.triangles.specs.Shared.{weighted, weighted_sum}
use Rattle.mesh_cover.specs.Covers.{times, IsMeanNear, IsNearFaceOf, IsFaceCovered, IsCovered}

-- three differences that are 0
none : (d e f : ℤ) (n : ℕ) → d ≡ pos 0 → e ≡ pos 0 → f ≡ pos 0 → (d *ℤ d +ℤ e *ℤ e +ℤ f *ℤ f) ≤ℤ pos n
none d e f n p q r =
    subst (λ (t : ℤ). t ≤ℤ pos n)
    (sym (ap (λ (t : ℤ). t *ℤ t +ℤ e *ℤ e +ℤ f *ℤ f) p
    ∙ (ap (λ (t : ℤ). pos 0 *ℤ pos 0 +ℤ t *ℤ t +ℤ f *ℤ f) q ∙ ap (λ (t : ℤ). pos 0 *ℤ pos 0 +ℤ pos 0 *ℤ pos 0 +ℤ t *ℤ t) r)))
    (omega (arith, ints))

-- a mean is near itself
own_mean : (within : ℕ) (a b c : Point) (u v w : ℕ) → 0 < u + v + w → IsMeanNear within (1 * (u + v + w)) (weighted a b c u v w) a b c u v w
own_mean within a b c u v w some =
    (some, none _ _ _ _ (axis (weighted_sum a.x b.x c.x u v w)) (axis (weighted_sum a.y b.y c.y u v w)) (axis (weighted_sum a.z b.z c.z u v w)))
  where
    same : (s t : ℤ) → s ≡ t → s -ℤ t ≡ pos 0
    same s t e = omega (arith, ints, e)

    axis : (x : ℤ) → pos (1 * (u + v + w)) *ℤ x -ℤ pos (u + v + w) *ℤ x ≡ pos 0
    axis x =
        same _ _
        (ring (x ∷ pos (u + v + w) ∷ []) (product (product (constant (pos 1)) (variable 1)) (variable 0))
        (product (variable 1) (variable 0)) tt)

own_face : (n within : ℕ) (points : List Point) (faces : List (List ℕ)) (i : ℕ) (f : List ℕ) → i < length faces → face_at faces i ≡ f
    → IsFace n f → IsFaceCovered within points points faces f
own_face n within points faces i [] l e h = absurd h
own_face n within points faces i (a ∷ []) l e h = absurd h
own_face n within points faces i (a ∷ b ∷ []) l e h = absurd h
own_face n within points faces i (a ∷ b ∷ c ∷ k ∷ f) l e h = absurd h
own_face n within points faces i (a ∷ b ∷ c ∷ []) l e h = λ u v w some. (
  i,
  l,
  subst (λ (f : List ℕ). IsNearFaceOf within points (1 * (u + v + w)) (weighted (point_at points a) (point_at points b) (point_at points c) u v w) f)
      (sym e) (u, v, w, own_mean within (point_at points a) (point_at points b) (point_at points c) u v w some),
)

pub covers_itself : (n within : ℕ) (points : List Point) (faces : List (List ℕ)) → All (IsFace n) faces
    → IsCovered within points faces points faces
covers_itself n within points faces each = λ k d l.
    own_face n within points faces k _ l (get_or_default faces k [] d l) (each k d l)
