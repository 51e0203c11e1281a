-- Faces on a finer grid.
--
-- Weights that give one point of two faces on the finer grid give the same point of both, times k; so they give one on the old grid.
use Rattle.std.proofs.Common.{ℕ, ◌≡◌, ◌+◌, ◌<◌, ◌≤◌, unsigned_abs, ℤ, pos, ◌+ℤ◌, ◌*ℤ◌, ◌*◌, ◌≢◌, ◌⊎◌, inl, inr, refl, ap, sym, ◌∙◌, arith, List, [], ◌∷◌, length, suc, zero, w32, w64}
use Rattle.std.proofs.Math.IntN.{pos-*ℤ-pos}
use Rattle.std.proofs.Math.Nat.{mul-pos, mul_comm, mul-le-mul_left}
use Rattle.std.specs.List.{All}
use Rattle.std.proofs.lemmas.Int.{unsigned_abs-mul}
use Rattle.geo_sign.proofs.Bounds.{kept, Held, held_kept}
use Rattle.geo_sign.proofs.RingLaws.{*ℤ_assoc}
use Rattle.geo_sign.specs.Point.{Point, point, IsWithin}
use Rattle.geo_sign.specs.declared.point.TheConstants.{BOX_LIMIT}
use Rattle.mesh.specs.Meshes.{point_at}
use Rattle.triangles.specs.Shared.{weighted_sum, weighted}
use Rattle.mesh_edges.specs.Edges.{face_at}
use Rattle.triangles.specs.Gaps.{IsCommon, AreFacesApart}
use Rattle.mesh_flips.specs.Flips.{KeepsApart}
use Rattle.mesh_flips.specs.Turns.{IsTriangle}
use Rattle.mesh_smooth.specs.Smoothed.{magnified, IsMagnified}
use Rattle.mesh_smooth.proofs.Still.{weighted_same}

-- coordinates on the finer grid
pub magnified_within : (k m limit : ℕ) (p : Point) → IsWithin m p → k * m ≤ limit → IsWithin limit (magnified k p)
magnified_within k m limit p w b = record { x_within = one p.x w.x_within; y_within = one p.y w.y_within; z_within = one p.z w.z_within }
  where
    one : (x : ℤ) → unsigned_abs x ≤ m → unsigned_abs (pos k *ℤ x) ≤ limit
    one x l = omega (arith, unsigned_abs-mul (pos k) x, mul-le-mul_left k l, b)

-- a coordinate times k, as the code computes it
pub coordinate : (k : ℕ) (x t r : ℤ) → r ≡ pos k *ℤ kept w32 t → t ≡ x → unsigned_abs x ≤ BOX_LIMIT
    → unsigned_abs (pos k *ℤ x) ≤ BOX_LIMIT → kept w64 r ≡ pos k *ℤ x
coordinate k x t r product is within bound =
    let a : Held BOX_LIMIT (kept w32 t) x = held_kept w32 (record { is = is; within = within }) tt in
    let b : Held BOX_LIMIT r (pos k *ℤ x) = record { is = product ∙ ap (λ (m : ℤ). pos k *ℤ m) a.is; within = bound } in
    (held_kept w64 b tt).is

-- the weight k u of a number counts as the weight u of k times the number
one : (k u : ℕ) (a : ℤ) → pos u *ℤ (pos k *ℤ a) ≡ pos (k * u) *ℤ a
one k u a = sym (*ℤ_assoc (pos u) (pos k) a) ∙ ap (λ (m : ℤ). m *ℤ a) (pos-*ℤ-pos u k ∙ ap pos (mul_comm u k))

magnified_sum : (k : ℕ) (a b c : ℤ) (u v w : ℕ)
    → weighted_sum (pos k *ℤ a) (pos k *ℤ b) (pos k *ℤ c) u v w ≡ weighted_sum a b c (k * u) (k * v) (k * w)
magnified_sum k a b c u v w =
    ap (λ (m : ℤ). m +ℤ pos v *ℤ (pos k *ℤ b) +ℤ pos w *ℤ (pos k *ℤ c)) (one k u a)
    ∙ (ap (λ (m : ℤ). pos (k * u) *ℤ a +ℤ m +ℤ pos w *ℤ (pos k *ℤ c)) (one k v b)
    ∙ ap (λ (m : ℤ). pos (k * u) *ℤ a +ℤ pos (k * v) *ℤ b +ℤ m) (one k w c))

magnified_place : (k : ℕ) (a b c : Point) (u v w : ℕ)
    → weighted (magnified k a) (magnified k b) (magnified k c) u v w ≡ weighted a b c (k * u) (k * v) (k * w)
magnified_place k a b c u v w =
    let x = magnified_sum k a.x b.x c.x u v w in
    let y = magnified_sum k a.y b.y c.y u v w in
    let z = magnified_sum k a.z b.z c.z u v w in
    ap (λ (m : ℤ). point m (weighted_sum (pos k *ℤ a.y) (pos k *ℤ b.y) (pos k *ℤ c.y) u v w) (weighted_sum (pos k *ℤ a.z) (pos k *ℤ b.z) (pos k *ℤ c.z) u v w)) x
    ∙ (ap (λ (m : ℤ). point (weighted_sum a.x b.x c.x (k * u) (k * v) (k * w)) m (weighted_sum (pos k *ℤ a.z) (pos k *ℤ b.z) (pos k *ℤ c.z) u v w)) y
    ∙ ap (λ (m : ℤ). point (weighted_sum a.x b.x c.x (k * u) (k * v) (k * w)) (weighted_sum a.y b.y c.y (k * u) (k * v) (k * w)) m) z)

-- points of a list
module _ (k : ℕ) (old new : List Point) (more : 0 < k) (s : IsMagnified k old new) where
  place_of : (a b c u v w : ℕ) → a < length old → b < length old → c < length old
      → weighted (point_at new a) (point_at new b) (point_at new c) u v w
      ≡ weighted (point_at old a) (point_at old b) (point_at old c) (k * u) (k * v) (k * w)
  place_of a b c u v w la lb lc =
      weighted_same u v w (s.each a la) (s.each b lb) (s.each c lc) ∙ magnified_place k (point_at old a) (point_at old b) (point_at old c) u v w

  -- no weight times k
  gone : (u : ℕ) → k * u ≡ 0 → u ≡ 0
  gone zero e = refl
  gone (suc u) e = absurd (omega (arith, e, mul-pos more pos_suc))
    where
      pos_suc : 0 < suc u
      pos_suc = omega arith

  common_back : (f g : List ℕ) (u v w : ℕ) → IsCommon f g (k * u) (k * v) (k * w) → IsCommon f g u v w
  common_back [] g u v w i = absurd i
  common_back (a ∷ []) g u v w i = absurd i
  common_back (a ∷ b ∷ []) g u v w i = absurd i
  common_back (a ∷ b ∷ c ∷ d ∷ x) g u v w i = absurd i
  common_back (a ∷ b ∷ c ∷ []) g u v w (p, q, r) = (λ e. gone u (p e), λ e. gone v (q e), λ e. gone w (r e))

  -- faces that are apart on the old grid are on the new one
  pub magnified_apart : (n : ℕ) (f g : List ℕ) → n ≡ length old → IsTriangle n f → IsTriangle n g → AreFacesApart old f g → AreFacesApart new f g
  magnified_apart n [] g en i j h = absurd i
  magnified_apart n (a ∷ []) g en i j h = absurd i
  magnified_apart n (a ∷ b ∷ []) g en i j h = absurd i
  magnified_apart n (a ∷ b ∷ c ∷ d ∷ x) g en i j h = absurd i
  magnified_apart n (a ∷ b ∷ c ∷ []) [] en i j h = absurd j
  magnified_apart n (a ∷ b ∷ c ∷ []) (d ∷ []) en i j h = absurd j
  magnified_apart n (a ∷ b ∷ c ∷ []) (d ∷ e ∷ []) en i j h = absurd j
  magnified_apart n (a ∷ b ∷ c ∷ []) (d ∷ e ∷ f ∷ y ∷ x) en i j h = absurd j
  magnified_apart n (a ∷ b ∷ c ∷ []) (d ∷ e ∷ f ∷ []) en (_, _, _, la, lb, lc) (_, _, _, ld, le, lf) h = λ u v w x y z total place.
      let all : k * u + k * v + k * w ≡ k * x + k * y + k * z = omega (arith, ap (λ (m : ℕ). k * m) total) in
      let here = place_of a b c u v w (omega (arith, la, en)) (omega (arith, lb, en)) (omega (arith, lc, en)) in
      let there = place_of d e f x y z (omega (arith, ld, en)) (omega (arith, le, en)) (omega (arith, lf, en)) in
      elim (h (k * u) (k * v) (k * w) (k * x) (k * y) (k * z) all (sym here ∙ (place ∙ there))) [
        | inl p ↦ inl (common_back (a ∷ b ∷ c ∷ []) (d ∷ e ∷ f ∷ []) u v w p)
        | inr p ↦ inr (common_back (d ∷ e ∷ f ∷ []) (a ∷ b ∷ c ∷ []) x y z p)
      ]

-- all faces of a mesh
pub magnified_kept : (k : ℕ) (old new : List Point) (faces : List (List ℕ)) → 0 < k → IsMagnified k old new
    → All (IsTriangle (length old)) faces → KeepsApart old new faces faces
magnified_kept k old new faces more s each i j ne li lj apart =
    magnified_apart k old new more s (length old) (face_at faces i) (face_at faces j) refl (each i [] li) (each j [] lj) apart
