-- Faces whose boxes are off each other.
--
-- Where all corners of one are below a height along an axis, and all of the other above it, no weights but 0 stand for a place of both.
use Rattle.std.proofs.Common.{ℕ, ◌≡◌, ◌+◌, inl, inr, ap, arith, ℤ, ◌≤ℤ◌, ◌<ℤ◌, List, [], ◌∷◌, sym, subst, get_or, ◌==◌, ◌||◌, true, false}
use Rattle.std.proofs.lemmas.Int.{ints}
use Rattle.geo_sign.specs.Point.{Point}
use Rattle.std.proofs.lemmas.Bool.{or_cases, eqb-true, false≢true}
use Rattle.mesh.specs.Meshes.{point_at, is_vertex_of}
use Rattle.triangles.specs.Hulls.{HoldsPoint, AreOff}
use Rattle.triangles.specs.declared.hull.Hull.{Hull}
use Rattle.triangles.specs.Shared.{weighted_sum, weighted}
use Rattle.triangles.specs.Gaps.{AreFacesApart}
use Rattle.triangles.proofs.Separations.{weights_gone, Gone}
use Rattle.mesh_flips.specs.Turns.{IsTriangle}
use Rattle.mesh_flips.specs.Clear.{IsClear}
use Rattle.mesh_flips.specs.Fields.{HoldsFace, HoldsQuad}
use Rattle.mesh_flips.specs.declared.quad.Quad.{Quad}

-- no weight is left
abbrev AreNone : (u v w : ℕ) → Type 0
AreNone u v w = (u ≡ 0) × (v ≡ 0) × (w ≡ 0)

-- those of the upper one, and so those of the lower
above : (m a b c d e f : ℤ) (u v w x y z : ℕ) → a ≤ℤ m → b ≤ℤ m → c ≤ℤ m → m <ℤ d → m <ℤ e → m <ℤ f → u + v + w ≡ x + y + z
    → weighted_sum a b c u v w ≡ weighted_sum d e f x y z → AreNone u v w × AreNone x y z
above m a b c d e f u v w x y z am bm cm md me mf total same =
    let g : Gone m d e f a b c x y z u v w =
    weights_gone m d e f a b c x y z u v w (omega (arith, ints)) (omega (arith, ints)) (omega (arith, ints)) am bm cm (sym total)
    (sym same) in
    let gx : x ≡ 0 = g.a_gone md in
    let gy : y ≡ 0 = g.b_gone me in
    let gz : z ≡ 0 = g.c_gone mf in
    ((omega arith, omega arith, omega arith), (gx, gy, gz))

-- one span all below another
below_span : (m n a b c d e f : ℤ) (u v w x y z : ℕ) → m <ℤ n → a ≤ℤ m → b ≤ℤ m → c ≤ℤ m → n ≤ℤ d → n ≤ℤ e → n ≤ℤ f
    → u + v + w ≡ x + y + z → weighted_sum a b c u v w ≡ weighted_sum d e f x y z → AreNone u v w × AreNone x y z
below_span m n a b c d e f u v w x y z mn am bm cm nd ne nf total same =
    above m a b c d e f u v w x y z am bm cm (omega (arith, ints)) (omega (arith, ints)) (omega (arith, ints)) total same

module _ (points : List Point) (h k : Hull) (a b c d e f : Point) (ha : HoldsPoint h a) (hb : HoldsPoint h b) (hc : HoldsPoint h c)
    (kd : HoldsPoint k d) (ke : HoldsPoint k e) (kf : HoldsPoint k f) (u v w x y z : ℕ) (total : u + v + w ≡ x + y + z)
    (place : weighted a b c u v w ≡ weighted d e f x y z) where
  none : AreOff h k → AreNone u v w
  none off =
      let on_x : weighted_sum a.x b.x c.x u v w ≡ weighted_sum d.x e.x f.x x y z = ap (λ (p : Point). p.x) place in
      let on_y : weighted_sum a.y b.y c.y u v w ≡ weighted_sum d.y e.y f.y x y z = ap (λ (p : Point). p.y) place in
      let on_z : weighted_sum a.z b.z c.z u v w ≡ weighted_sum d.z e.z f.z x y z = ap (λ (p : Point). p.z) place in
      elim off [
        | inl i ↦ elim i [
          | inl l ↦ (below_span h.x.high k.x.low _ _ _ _ _ _ u v w x y z l ha.x_high hb.x_high hc.x_high kd.x_low ke.x_low kf.x_low total on_x).0
          | inr l ↦ (below_span k.x.high h.x.low _ _ _ _ _ _ x y z u v w l kd.x_high ke.x_high kf.x_high ha.x_low hb.x_low hc.x_low (sym total) (sym on_x)).1
        ]
        | inr i ↦ elim i [
          | inl j ↦ elim j [
            | inl l ↦ (below_span h.y.high k.y.low _ _ _ _ _ _ u v w x y z l ha.y_high hb.y_high hc.y_high kd.y_low ke.y_low kf.y_low total on_y).0
            | inr l ↦ (below_span k.y.high h.y.low _ _ _ _ _ _ x y z u v w l kd.y_high ke.y_high kf.y_high ha.y_low hb.y_low hc.y_low (sym total) (sym on_y)).1
          ]
          | inr j ↦ elim j [
            | inl l ↦ (below_span h.z.high k.z.low _ _ _ _ _ _ u v w x y z l ha.z_high hb.z_high hc.z_high kd.z_low ke.z_low kf.z_low total on_z).0
            | inr l ↦ (below_span k.z.high h.z.low _ _ _ _ _ _ x y z u v w l kd.z_high ke.z_high kf.z_high ha.z_low hb.z_low hc.z_low (sym total) (sym on_z)).1
          ]
        ]
      ]

pub off_apart : (points : List Point) (h k : Hull) (f g : List ℕ) → HoldsFace points h f → HoldsFace points k g → AreOff h k
    → AreFacesApart points f g
off_apart points h k [] g i j off = absurd i
off_apart points h k (a ∷ []) g i j off = absurd i
off_apart points h k (a ∷ b ∷ []) g i j off = absurd i
off_apart points h k (a ∷ b ∷ c ∷ d ∷ x) g i j off = absurd i
off_apart points h k (a ∷ b ∷ c ∷ []) [] i j off = absurd j
off_apart points h k (a ∷ b ∷ c ∷ []) (d ∷ []) i j off = absurd j
off_apart points h k (a ∷ b ∷ c ∷ []) (d ∷ e ∷ []) i j off = absurd j
off_apart points h k (a ∷ b ∷ c ∷ []) (d ∷ e ∷ f ∷ y ∷ x) i j off = absurd j
off_apart points h k (a ∷ b ∷ c ∷ []) (d ∷ e ∷ f ∷ []) (ha, hb, hc) (kd, ke, kf) off = λ u v w x y z total place.
    let n = none points h k _ _ _ _ _ _ ha hb hc kd ke kf u v w x y z total place off in
    inl (λ _. n.0, λ _. n.1, λ _. n.2)

-- whichever way round they are named
pub apart_back : (points : List Point) (f g : List ℕ) → AreFacesApart points f g → AreFacesApart points g f
apart_back points [] g i = absurd i
apart_back points (a ∷ []) g i = absurd i
apart_back points (a ∷ b ∷ []) g i = absurd i
apart_back points (a ∷ b ∷ c ∷ d ∷ x) g i = absurd i
apart_back points (a ∷ b ∷ c ∷ []) [] i = absurd i
apart_back points (a ∷ b ∷ c ∷ []) (d ∷ []) i = absurd i
apart_back points (a ∷ b ∷ c ∷ []) (d ∷ e ∷ []) i = absurd i
apart_back points (a ∷ b ∷ c ∷ []) (d ∷ e ∷ f ∷ y ∷ x) i = absurd i
apart_back points (a ∷ b ∷ c ∷ []) (d ∷ e ∷ f ∷ []) i = λ u v w x y z total place.
    elim (i x y z u v w (sym total) (sym place)) [ inl p ↦ inr p | inr p ↦ inl p ]

-- a box of a face's points is one of the face
pub held_face : (n : ℕ) (points : List Point) (h : Hull) (f : List ℕ) (p q r : Point) → IsTriangle n f
    → p ≡ point_at points (get_or f 0 0) → q ≡ point_at points (get_or f 1 0) → r ≡ point_at points (get_or f 2 0)
    → HoldsPoint h p → HoldsPoint h q → HoldsPoint h r → HoldsFace points h f
held_face n points h [] p q r o _ _ _ _ _ _ = absurd o
held_face n points h (a ∷ []) p q r o _ _ _ _ _ _ = absurd o
held_face n points h (a ∷ b ∷ []) p q r o _ _ _ _ _ _ = absurd o
held_face n points h (a ∷ b ∷ c ∷ d ∷ x) p q r o _ _ _ _ _ _ = absurd o
held_face n points h (a ∷ b ∷ c ∷ []) p q r o ep eq er hp hq hr = (
  subst (λ (t : Point). HoldsPoint h t) ep hp,
  subst (λ (t : Point). HoldsPoint h t) eq hq,
  subst (λ (t : Point). HoldsPoint h t) er hr,
)

-- the points of a face, one by one
pub corner_held : (points : List Point) (h : Hull) (f : List ℕ) (v : ℕ) → HoldsFace points h f → is_vertex_of v f ≡ true
    → HoldsPoint h (point_at points v)
corner_held points h [] v o e = absurd o
corner_held points h (a ∷ []) v o e = absurd o
corner_held points h (a ∷ b ∷ []) v o e = absurd o
corner_held points h (a ∷ b ∷ c ∷ d ∷ x) v o e = absurd o
corner_held points h (a ∷ b ∷ c ∷ []) v (ha, hb, hc) e =
    elim (or_cases (a == v) ((b == v) || ((c == v) || false)) e) [
      | inl p ↦ at a (eqb-true a v p) ha
      | inr p ↦ elim (or_cases (b == v) ((c == v) || false) p) [
        | inl q ↦ at b (eqb-true b v q) hb
        | inr q ↦ elim (or_cases (c == v) false q) [ inl r ↦ at c (eqb-true c v r) hc | inr r ↦ absurd (false≢true r) ]
      ]
    ]
  where
    at : (k : ℕ) → k ≡ v → HoldsPoint h (point_at points k) → HoldsPoint h (point_at points v)
    at k s i = subst (λ (j : ℕ). HoldsPoint h (point_at points j)) s i

-- a point is not in two boxes that are off each other
pub not_in_both : (h k : Hull) (p : Point) → HoldsPoint h p → HoldsPoint k p → AreOff h k → ⊥
not_in_both h k p a b off =
    elim off [
      | inl i ↦ elim i [ inl l ↦ omega (arith, ints, a.x_high, b.x_low) | inr l ↦ omega (arith, ints, a.x_low, b.x_high) ]
      | inr i ↦ elim i [
        | inl j ↦ elim j [ inl l ↦ omega (arith, ints, a.y_high, b.y_low) | inr l ↦ omega (arith, ints, a.y_low, b.y_high) ]
        | inr j ↦ elim j [ inl l ↦ omega (arith, ints, a.z_high, b.z_low) | inr l ↦ omega (arith, ints, a.z_low, b.z_high) ]
      ]
    ]

-- a face whose box is off that of a quad is clear of it
pub off_clear : (points : List Point) (q : Quad) (h k : Hull) (f : List ℕ) → HoldsQuad points k q → HoldsFace points h f → AreOff h k
    → IsClear points q f
off_clear points q h k f quad face off =
    let x : List ℕ = q.a ∷ q.d ∷ q.c ∷ [] in
    let y : List ℕ = q.d ∷ q.b ∷ q.c ∷ [] in
    record {
      first = apart_back points f x (off_apart points h k f x face (quad.a, quad.d, quad.c) off);
      second = apart_back points f y (off_apart points h k f y face (quad.d, quad.b, quad.c) off);
      new = λ e _. not_in_both h k _ (corner_held points h f q.c face e) quad.c off;
    }
