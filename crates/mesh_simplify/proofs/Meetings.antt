-- Two faces that are not apart were faces of the old mesh that were not.
--
-- Two faces are apart, or both are old ones whose corners have not moved. If these were apart, the new ones are: their corners are at the
-- same places, and since no two vertices have the same old number, they have the same corners in common.
use Rattle.std.proofs.Common.{ℕ, ◌≡◌, ◌<◌, ◌==◌, inl, inr, refl, ap, sym, subst, ◌∙◌, arith, Bool, true, false, List, [], ◌∷◌, length, get_or, map}
use Rattle.std.proofs.Common.{eq-eqb}
use Rattle.std.specs.List.{All, Contains}
use Rattle.std.proofs.lemmas.Bool.{cases_lt, eqb-true}
use Rattle.std.proofs.lemmas.List.{get_or_default}
use Rattle.geo_sign.specs.Point.{Point}
use Rattle.mesh.specs.Meshes.{IsFace, is_vertex_of, point_at}
use Rattle.mesh_edges.specs.Edges.{face_at}
use Rattle.triangles.specs.Shared.{weighted}
use Rattle.triangles.specs.Gaps.{IsCommon, AreFacesApart}
use Rattle.mesh_simplify.specs.Simplified.{IsVertexMap, IsAtOldPlace}
use Rattle.mesh_simplify.specs.Laws.{MeetsOnlyWhatMet}

module _ (moves : Bool) (from : List ℕ) (old_points points : List Point) (m : IsVertexMap moves from old_points points) where
  abbrev old : ℕ → ℕ
  old v = get_or from v 0

  -- as many as points
  count : length from ≡ length points
  count = sym m.count

  -- no two vertices have the same old number
  distinct : (u v : ℕ) → u < length points → v < length points → old u ≡ old v → u ≡ v
  distinct u v ul vl e =
      elim (cases_lt u v) [
        | inl l ↦ let h : old u < old v = m.rising u v 0 l (omega (arith, count)) in absurd (omega arith)
        | inr l ↦ elim (cases_lt v u) [
          | inl k ↦ let h : old v < old u = m.rising v u 0 k (omega (arith, count)) in absurd (omega arith)
          | inr k ↦ omega arith
        ]
      ]

  -- so old numbers are the same where vertices are
  same_test : (u v : ℕ) → u < length points → v < length points → (old u == old v) ≡ (u == v)
  same_test u v ul vl = by (u == v) (old u == old v) (λ e. eqb-true u v e) (λ e. eq-eqb u v e) (λ e. eqb-true (old u) (old v) e) (λ e. eq-eqb (old u) (old v) e)
    where
      by : (p q : Bool) → (p ≡ true → u ≡ v) → (u ≡ v → p ≡ true) → (q ≡ true → old u ≡ old v) → (old u ≡ old v → q ≡ true) → q ≡ p
      by true true f g h k = refl
      by false false f g h k = refl
      by true false f g h k = k (ap old (f refl))
      by false true f g h k = sym (g (distinct u v ul vl (h refl)))

  -- and a face has the vertices of the old one
  same_vertex : (v d e h : ℕ) → v < length points → d < length points → e < length points → h < length points
      → is_vertex_of (old v) (old d ∷ old e ∷ old h ∷ []) ≡ is_vertex_of v (d ∷ e ∷ h ∷ [])
  same_vertex v d e h vl dl el hl =
      let p : (old d == old v) ≡ (d == v) = same_test d v dl vl in
      let q : (old e == old v) ≡ (e == v) = same_test e v el vl in
      let r : (old h == old v) ≡ (h == v) = same_test h v hl vl in
      cc

  -- weights of old common corners are those of common corners
  common : (a b c d e h u v w : ℕ) → IsFace (length points) (a ∷ b ∷ c ∷ []) → IsFace (length points) (d ∷ e ∷ h ∷ [])
      → IsCommon (old a ∷ old b ∷ old c ∷ []) (old d ∷ old e ∷ old h ∷ []) u v w
      → IsCommon (a ∷ b ∷ c ∷ []) (d ∷ e ∷ h ∷ []) u v w
  common a b c d e h u v w i j (p, q, r) =
      let al : a < length points = omega (arith, i.0, i.3) in
      let dl : d < length points = omega (arith, j.0, j.3) in (
        λ no. p (same_vertex a d e h al dl j.3 j.4 ∙ no),
        λ no. q (same_vertex b d e h i.3 dl j.3 j.4 ∙ no),
        λ no. r (same_vertex c d e h i.4 dl j.3 j.4 ∙ no),
      )

  -- the same sum of places
  same_sum : (a b c u v w : ℕ) → All (IsAtOldPlace old_points points from) (a ∷ b ∷ c ∷ [])
      → weighted (point_at points a) (point_at points b) (point_at points c) u v w
      ≡ weighted (point_at old_points (old a)) (point_at old_points (old b)) (point_at old_points (old c)) u v w
  same_sum a b c u v w stay =
      let p : point_at points a ≡ point_at old_points (old a) = stay 0 0 (omega arith) in
      let q : point_at points b ≡ point_at old_points (old b) = stay 1 0 (omega arith) in
      let r : point_at points c ≡ point_at old_points (old c) = stay 2 0 (omega arith) in
      ap (λ (x : Point). weighted x (point_at points b) (point_at points c) u v w) p
      ∙ (ap (λ (x : Point). weighted (point_at old_points (old a)) x (point_at points c) u v w) q
      ∙ ap (λ (x : Point). weighted (point_at old_points (old a)) (point_at old_points (old b)) x u v w) r)

  -- faces that were apart, and whose corners have not moved, are
  pub apart_still : (f g : List ℕ) → IsFace (length points) f → IsFace (length points) g
      → All (IsAtOldPlace old_points points from) f → All (IsAtOldPlace old_points points from) g
      → AreFacesApart old_points (map (λ v. get_or from v 0) f) (map (λ v. get_or from v 0) g)
      → AreFacesApart points f g
  apart_still [] g i j s t was = absurd i
  apart_still (a ∷ []) g i j s t was = absurd i
  apart_still (a ∷ b ∷ []) g i j s t was = absurd i
  apart_still (a ∷ b ∷ c ∷ d ∷ x) g i j s t was = absurd i
  apart_still (a ∷ b ∷ c ∷ []) [] i j s t was = absurd j
  apart_still (a ∷ b ∷ c ∷ []) (d ∷ []) i j s t was = absurd j
  apart_still (a ∷ b ∷ c ∷ []) (d ∷ e ∷ []) i j s t was = absurd j
  apart_still (a ∷ b ∷ c ∷ []) (d ∷ e ∷ h ∷ y ∷ x) i j s t was = absurd j
  apart_still (a ∷ b ∷ c ∷ []) (d ∷ e ∷ h ∷ []) i j s t was = λ u v w x y z total shared.
      elim (was u v w x y z total (sym (same_sum a b c u v w s) ∙ (shared ∙ same_sum d e h x y z t))) [
        | inl p ↦ inl (common a b c d e h u v w i j p)
        | inr p ↦ inr (common d e h a b c x y z j i p)
      ]

-- the old face that a face is
kept_face : (from : List ℕ) (old_faces : List (List ℕ)) (f : List ℕ) (k : Contains old_faces (map (λ v. get_or from v 0) f))
    → face_at old_faces k.0 ≡ map (λ v. get_or from v 0) f
kept_face from old_faces f k = get_or_default old_faces k.0 [] _ k.1 ∙ k.2

pub met_before : MeetsOnlyWhatMet
met_before moves within old_points old_faces points faces valid s i j l m met =
    elim (s.apart i j l m) [
      | inl apart ↦ absurd (met apart)
      | inr (one, other) ↦
          let f : List ℕ = face_at faces i in
          let g : List ℕ = face_at faces j in
          let first : face_at old_faces one.0.0 ≡ map (λ v. get_or s.from v 0) f = kept_face s.from old_faces f one.0 in
          let second : face_at old_faces other.0.0 ≡ map (λ v. get_or s.from v 0) g = kept_face s.from old_faces g other.0 in
          record {
            k = one.0.0;
            l = other.0.0;
            k_within = one.0.1;
            l_within = other.0.1;
            one = first;
            other = second;
            one_stays = one.1;
            other_stays = other.1;
            met = λ was.
                met (apart_still moves s.from old_points points s.vertices f g (valid.each i [] (omega arith)) (valid.each j [] m) one.1 other.1
                (subst (λ (x : List ℕ). AreFacesApart old_points x (map (λ v. get_or s.from v 0) g)) first
                (subst (λ (x : List ℕ). AreFacesApart old_points (face_at old_faces one.0.0) x) second was)));
          }
    ]
