-- A triangle near one face, and one whose quarters are near faces.
--
-- A point of a triangle is in one of the four parts into which the middles of its sides cut it: at a corner if the weight of that corner is
-- at least the sum of the others, else in the middle (quarters). The weights of the parts' corners follow, and the units of the parts
-- are half as long (halved).
use Rattle.std.proofs.Common.{ℕ, zero, suc, ◌≡◌, ◌+◌, ◌*◌, ◌<◌, ◌^◌, ◌⊎◌, inl, inr, ap, sym, subst, ◌∙◌, arith, List, [], ◌∷◌, length, get_or}
use Rattle.std.proofs.Common.{ℤ, pos, ◌+ℤ◌, ◌-ℤ◌, ◌*ℤ◌, ◌≤ℤ◌}
use Rattle.std.proofs.lemmas.Int.{ints}
use Rattle.geo_sign.specs.Point.{Point, step, square}
use Rattle.geo_sign.specs.Polynomial.{Polynomial, variable, constant, sum, difference, product}
use Rattle.geo_sign.proofs.Bounds.{same_place}
use Rattle.geo_sign.proofs.Ring.{ring}
use Rattle.mesh.specs.Meshes.{point_at, IsFace}
use Rattle.mesh_edges.specs.Edges.{face_at}
use Rattle.triangles.specs.Shared.{weighted_sum, weighted}
use Rattle.mesh_cover.specs.Covers.{times, IsMeanNear, IsNearFaceOf, IsPlaceCovered, IsTriangleCovered, IsFaceCovered}
use Rattle.mesh_cover.specs.Parts.{plus, IsCornerNear}
use Rattle.mesh_cover.proofs.Convex.{square_times, mixed, mean_near}

-- three corners near one face
near_face : (within m : ℕ) (points : List Point) (a b c : Point) (f : List ℕ) (u v w : ℕ) → 0 < u + v + w
    → IsCornerNear within points m a f → IsCornerNear within points m b f → IsCornerNear within points m c f
    → IsNearFaceOf within points (m * (u + v + w)) (weighted a b c u v w) f
near_face within m points a b c [] u v w some one two three = absurd one
near_face within m points a b c (x ∷ []) u v w some one two three = absurd one
near_face within m points a b c (x ∷ y ∷ []) u v w some one two three = absurd one
near_face within m points a b c (x ∷ y ∷ z ∷ k ∷ f) u v w some one two three = absurd one
near_face within m points a b c (x ∷ y ∷ z ∷ []) u v w some one two three =
    let first = one.3 in
    let second = two.3 in
    let third = three.3 in (
      mixed u v w one.0 two.0 three.0,
      mixed u v w one.1 two.1 three.1,
      mixed u v w one.2 two.2 three.2,
      mean_near (2 ^ 20) within m a b c (point_at points x) (point_at points y) (point_at points z) one.0 one.1 one.2 two.0 two.1 two.2
          three.0 three.1 three.2 u v w (omega arith) (first.total, first.near) (second.total, second.near) (third.total, third.near) some,
    )

-- the triangle is near the face
pub covered_by_one : (within m : ℕ) (points : List Point) (faces : List (List ℕ)) (i : ℕ) (a b c : Point) → i < length faces
    → IsCornerNear within points m a (face_at faces i) → IsCornerNear within points m b (face_at faces i)
    → IsCornerNear within points m c (face_at faces i)
    → IsTriangleCovered within points faces m a b c
covered_by_one within m points faces i a b c below one two three = λ u v w some.
    (i, below, near_face within m points a b c (face_at faces i) u v w some one two three)

-- the same place in units half as long
halved_mean : (within m : ℕ) (q a b c : Point) (u v w : ℕ) → IsMeanNear within (2 * m) (times 2 q) a b c u v w → IsMeanNear within m q a b c u v w
halved_mean within m q a b c u v w h = (h.0, quarter _ _ (subst (λ (t : ℤ). (pos 4 *ℤ square e) ≤ℤ t) reach long))
  where
    n : ℕ
    n = u + v + w

    e : Point
    e = step (times (u + v + w) q) (times m (weighted a b c u v w))

    axis : (x s : ℤ)
        → pos (2 * m) *ℤ s -ℤ pos (u + v + w) *ℤ (pos 2 *ℤ x) ≡ pos 2 *ℤ (pos m *ℤ s -ℤ pos (u + v + w) *ℤ x)
    axis x s =
        ring (x ∷ s ∷ pos m ∷ pos (u + v + w) ∷ pos 2 ∷ [])
        (difference (product (product (variable 4) (variable 2)) (variable 1)) (product (variable 3) (product (variable 4) (variable 0))))
        (product (variable 4) (difference (product (variable 2) (variable 1)) (product (variable 3) (variable 0)))) tt

    vector : step (times (u + v + w) (times 2 q)) (times (2 * m) (weighted a b c u v w)) ≡ times 2 e
    vector =
        same_place _ _ _ _ _ _ (axis q.x (weighted_sum a.x b.x c.x u v w)) (axis q.y (weighted_sum a.y b.y c.y u v w))
        (axis q.z (weighted_sum a.z b.z c.z u v w))

    long : (pos 4 *ℤ square e) ≤ℤ pos (2 * m * (u + v + w) * within * (2 * m * (u + v + w) * within))
    long =
        subst (λ (t : ℤ). t ≤ℤ pos (2 * m * (u + v + w) * within * (2 * m * (u + v + w) * within))) (square_times 2 e)
        (subst (λ (g : Point). square g ≤ℤ pos (2 * m * (u + v + w) * within * (2 * m * (u + v + w) * within))) vector h.1)

    far : Polynomial → Polynomial
    far p = product (product p (variable 1)) (variable 2)

    reach : pos (2 * m * (u + v + w) * within * (2 * m * (u + v + w) * within)) ≡ pos 4 *ℤ pos (m * (u + v + w) * within * (m * (u + v + w) * within))
    reach =
        ring (pos m ∷ pos (u + v + w) ∷ pos within ∷ pos 2 ∷ [])
        (product (far (product (variable 3) (variable 0))) (far (product (variable 3) (variable 0))))
        (product (product (variable 3) (variable 3)) (product (far (variable 0)) (far (variable 0)))) tt

    quarter : (s t : ℤ) → (pos 4 *ℤ s) ≤ℤ (pos 4 *ℤ t) → s ≤ℤ t
    quarter s t h = omega (arith, ints)

halved_face : (within m : ℕ) (points : List Point) (q : Point) (f : List ℕ) → IsNearFaceOf within points (2 * m) (times 2 q) f
    → IsNearFaceOf within points m q f
halved_face within m points q [] h = absurd h
halved_face within m points q (x ∷ []) h = absurd h
halved_face within m points q (x ∷ y ∷ []) h = absurd h
halved_face within m points q (x ∷ y ∷ z ∷ k ∷ f) h = absurd h
halved_face within m points q (x ∷ y ∷ z ∷ []) h =
    (h.0, h.1, h.2, halved_mean within m q (point_at points x) (point_at points y) (point_at points z) h.0 h.1 h.2 h.3)

halved : (within m k : ℕ) (points : List Point) (faces : List (List ℕ)) (p q : Point) → k ≡ 2 * m → p ≡ times 2 q
    → IsPlaceCovered within points faces k p
    → IsPlaceCovered within points faces m q
halved within m k points faces p q e same h =
    let moved : IsPlaceCovered within points faces (2 * m) (times 2 q) =
    subst (λ (n : ℕ). IsPlaceCovered within points faces n (times 2 q)) e
    (subst (λ (r : Point). IsPlaceCovered within points faces k r) same h) in
    (moved.0, moved.1, halved_face within m points q (face_at faces moved.0) moved.2)

pos_same : (a b : ℕ) → pos a ≡ pos b → a ≡ b
pos_same a b e = omega (arith, ints)

-- in the part at the first corner
at_corner : (within m : ℕ) (points : List Point) (faces : List (List ℕ)) (a b c : Point) (k v w : ℕ)
    → IsTriangleCovered within points faces (2 * m) (plus a a) (plus a b) (plus a c) → 0 < k + (v + w) + v + w
    → IsPlaceCovered within points faces (m * (k + (v + w) + v + w)) (weighted a b c (k + (v + w)) v w)
at_corner within m points faces a b c k v w part some =
    halved within (m * (k + (v + w) + v + w)) (2 * m * (k + 2 * v + 2 * w)) points faces _ (weighted a b c (k + (v + w)) v w) units
    (same_place _ _ _ _ _ _ (axis a.x b.x c.x) (axis a.y b.y c.y) (axis a.z b.z c.z)) (part k (2 * v) (2 * w) (omega (arith, some)))
  where
    units : 2 * m * (k + 2 * v + 2 * w) ≡ 2 * (m * (k + (v + w) + v + w))
    units =
        pos_same _ _
        (ring (pos m ∷ pos k ∷ pos v ∷ pos w ∷ [])
        (product (product (constant (pos 2)) (variable 0)) (sum (sum (variable 1) (product (constant (pos 2)) (variable 2))) (product (constant (pos 2)) (variable 3))))
        (product (constant (pos 2)) (product (variable 0) (sum (sum (sum (variable 1) (sum (variable 2) (variable 3))) (variable 2)) (variable 3)))) tt)

    axis : (x y z : ℤ) → weighted_sum (x +ℤ x) (x +ℤ y) (x +ℤ z) k (2 * v) (2 * w) ≡ pos 2 *ℤ weighted_sum x y z (k + (v + w)) v w
    axis x y z =
        ring (x ∷ y ∷ z ∷ pos k ∷ pos v ∷ pos w ∷ [])
        (sum (sum (product (variable 3) (sum (variable 0) (variable 0))) (product (product (constant (pos 2)) (variable 4)) (sum (variable 0) (variable 1)))) (product (product (constant (pos 2)) (variable 5)) (sum (variable 0) (variable 2))))
        (product (constant (pos 2)) (sum (sum (product (sum (variable 3) (sum (variable 4) (variable 5))) (variable 0)) (product (variable 4) (variable 1))) (product (variable 5) (variable 2)))) tt

-- in the part in the middle
in_middle : (within m : ℕ) (points : List Point) (faces : List (List ℕ)) (a b c : Point) (u v w i j k : ℕ) → v + w ≡ u + i → w + u ≡ v + j
    → u + v ≡ w + k
    → IsTriangleCovered within points faces (2 * m) (plus b c) (plus c a) (plus a b) → 0 < u + v + w
    → IsPlaceCovered within points faces (m * (u + v + w)) (weighted a b c u v w)
in_middle within m points faces a b c u v w i j k d e f part some =
    halved within (m * (u + v + w)) (2 * m * (i + j + k)) points faces _ (weighted a b c u v w) units
    (same_place _ _ _ _ _ _ (axis a.x b.x c.x) (axis a.y b.y c.y) (axis a.z b.z c.z)) (part i j k (omega (arith, some, d, e, f)))
  where
    all : i + j + k ≡ u + v + w
    all = omega (arith, d, e, f)

    units : 2 * m * (i + j + k) ≡ 2 * (m * (u + v + w))
    units =
        ap (λ (n : ℕ). 2 * m * n) all
        ∙ pos_same _ _
        (ring (pos m ∷ pos (u + v + w) ∷ []) (product (product (constant (pos 2)) (variable 0)) (variable 1))
        (product (constant (pos 2)) (product (variable 0) (variable 1))) tt)

    axis : (x y z : ℤ) → weighted_sum (y +ℤ z) (z +ℤ x) (x +ℤ y) i j k ≡ pos 2 *ℤ weighted_sum x y z u v w
    axis x y z =
        let first : j + k ≡ 2 * u = omega (arith, d, e, f) in
        let second : k + i ≡ 2 * v = omega (arith, d, e, f) in
        let third : i + j ≡ 2 * w = omega (arith, d, e, f) in
        ring (x ∷ y ∷ z ∷ pos i ∷ pos j ∷ pos k ∷ [])
        (sum (sum (product (variable 3) (sum (variable 1) (variable 2))) (product (variable 4) (sum (variable 2) (variable 0)))) (product (variable 5) (sum (variable 0) (variable 1))))
        (sum (sum (product (sum (variable 4) (variable 5)) (variable 0)) (product (sum (variable 5) (variable 3)) (variable 1))) (product (sum (variable 3) (variable 4)) (variable 2))) tt
        ∙ (ap (λ (n : ℕ). pos n *ℤ x +ℤ pos (k + i) *ℤ y +ℤ pos (i + j) *ℤ z) first
        ∙ (ap (λ (n : ℕ). pos (2 * u) *ℤ x +ℤ pos n *ℤ y +ℤ pos (i + j) *ℤ z) second
        ∙ (ap (λ (n : ℕ). pos (2 * u) *ℤ x +ℤ pos (2 * v) *ℤ y +ℤ pos n *ℤ z) third
        ∙ ring (x ∷ y ∷ z ∷ pos u ∷ pos v ∷ pos w ∷ [])
        (sum (sum (product (product (constant (pos 2)) (variable 3)) (variable 0)) (product (product (constant (pos 2)) (variable 4)) (variable 1))) (product (product (constant (pos 2)) (variable 5)) (variable 2)))
        (product (constant (pos 2)) (sum (sum (product (variable 3) (variable 0)) (product (variable 4) (variable 1))) (product (variable 5) (variable 2)))) tt)))

-- the corners in another order
turned : (within m : ℕ) (points : List Point) (faces : List (List ℕ)) (a b c : Point) (u v w : ℕ)
    → IsPlaceCovered within points faces (m * (v + w + u)) (weighted b c a v w u)
    → IsPlaceCovered within points faces (m * (u + v + w)) (weighted a b c u v w)
turned within m points faces a b c u v w h =
    let all : v + w + u ≡ u + v + w = omega arith in
    subst (λ (n : ℕ). IsPlaceCovered within points faces (m * n) (weighted a b c u v w)) all
    (subst (λ (p : Point). IsPlaceCovered within points faces (m * (v + w + u)) p)
    (same_place _ _ _ _ _ _ (axis a.x b.x c.x) (axis a.y b.y c.y) (axis a.z b.z c.z)) h)
  where
    axis : (x y z : ℤ) → weighted_sum y z x v w u ≡ weighted_sum x y z u v w
    axis x y z =
        let add : (r s t : ℤ) → s +ℤ t +ℤ r ≡ r +ℤ s +ℤ t = λ r s t. omega (arith, ints) in
        add (pos u *ℤ x) (pos v *ℤ y) (pos w *ℤ z)

-- how much one number is over the other
split : (a b : ℕ) → ((k : ℕ) × (a ≡ k + b)) ⊎ ((k : ℕ) × (b ≡ a + k))
split zero b = inr (b, omega arith)
split (suc a) zero = inl (suc a, omega arith)
split (suc a) (suc b) =
    elim (split a b) [
      | inl s ↦ inl (s.0, omega (arith, s.1))
      | inr s ↦ inr (s.0, omega (arith, s.1))
    ]

-- a triangle whose quarters are near faces is
pub quarters : (within m : ℕ) (points : List Point) (faces : List (List ℕ)) (a b c : Point)
    → IsTriangleCovered within points faces (2 * m) (plus a a) (plus a b) (plus a c)
    → IsTriangleCovered within points faces (2 * m) (plus b b) (plus b c) (plus b a)
    → IsTriangleCovered within points faces (2 * m) (plus c c) (plus c a) (plus c b)
    → IsTriangleCovered within points faces (2 * m) (plus b c) (plus c a) (plus a b)
    → IsTriangleCovered within points faces m a b c
quarters within m points faces a b c first second third middle = λ u v w some.
    elim (split u (v + w)) [
      | inl s ↦
          subst (λ (n : ℕ). IsPlaceCovered within points faces (m * (n + v + w)) (weighted a b c n v w)) (sym s.1)
          (at_corner within m points faces a b c s.0 v w first (omega (arith, some, s.1)))
      | inr i ↦ elim (split v (w + u)) [
        | inl s ↦
            turned within m points faces a b c u v w
            (subst (λ (n : ℕ). IsPlaceCovered within points faces (m * (n + w + u)) (weighted b c a n w u)) (sym s.1)
            (at_corner within m points faces b c a s.0 w u second (omega (arith, some, s.1))))
        | inr j ↦ elim (split w (u + v)) [
          | inl s ↦
              turned within m points faces a b c u v w
              (turned within m points faces b c a v w u
              (subst (λ (n : ℕ). IsPlaceCovered within points faces (m * (n + u + v)) (weighted c a b n u v)) (sym s.1)
              (at_corner within m points faces c a b s.0 u v third (omega (arith, some, s.1)))))
          | inr k ↦ in_middle within m points faces a b c u v w i.0 j.0 k.0 i.1 j.1 k.1 middle some
        ]
      ]
    ]

-- the same triangle, by other names of its corners
pub moved : (within m n : ℕ) (points : List Point) (faces : List (List ℕ)) (a b c x y z : Point) → m ≡ n → a ≡ x → b ≡ y → c ≡ z
    → IsTriangleCovered within points faces m a b c
    → IsTriangleCovered within points faces n x y z
moved within m n points faces a b c x y z e f g h covered =
    subst (λ (k : ℕ). IsTriangleCovered within points faces k x y z) e
    (subst (λ (p : Point). IsTriangleCovered within points faces m p y z) f
    (subst (λ (p : Point). IsTriangleCovered within points faces m a p z) g
    (subst (λ (p : Point). IsTriangleCovered within points faces m a b p) h covered)))

-- the whole of a face
pub face_covered : (n within : ℕ) (homes points : List Point) (faces : List (List ℕ)) (f : List ℕ) → IsFace n f
    → IsTriangleCovered within points faces 1 (point_at homes (get_or f 0 0)) (point_at homes (get_or f 1 0)) (point_at homes (get_or f 2 0))
    → IsFaceCovered within homes points faces f
face_covered n within homes points faces [] i h = absurd i
face_covered n within homes points faces (a ∷ []) i h = absurd i
face_covered n within homes points faces (a ∷ b ∷ []) i h = absurd i
face_covered n within homes points faces (a ∷ b ∷ c ∷ k ∷ f) i h = absurd i
face_covered n within homes points faces (a ∷ b ∷ c ∷ []) i h = h
