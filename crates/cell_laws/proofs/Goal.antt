-- The displaced place of a data point can stand for it; and a facet on a wall is an outer one. The side of the displaced place
-- is a number of four digits of which the side of the point is the first, so it has the sign of that where this is not zero,
-- and it is zero for no facet of a cell. So a cell has the displaced place only if it has the point too, and no facet's plane
-- goes through it.
-- Stands on: Box and Heights.
use Rattle.std.proofs.Common.{ℕ, ◌≡◌, ◌<◌, ◌≤◌, ◌^◌, refl, ap, ap₂, sym, subst, ◌∙◌, ◌⊎◌, inl, inr, arith, unsigned_abs, ℤ, pos}
use Rattle.std.proofs.Common.{neg_ℤ, ◌+ℤ◌, ◌-ℤ◌, ◌*ℤ◌, ◌≤ℤ◌, ◌<ℤ◌, [], ◌∷◌}
use Rattle.std.proofs.lemmas.Int.{ints, by_lt_z}
use lib.IntN.{*ℤ_comm}
use Rattle.geo_sign.specs.Polynomial.{constant, difference, Polynomial, product, variable}
use Rattle.geo_sign.proofs.Ring.{ring}
use Rattle.geo_sign.specs.Orientation.{orientation}
use Rattle.geo_sign.specs.Point.{corner_point, IsWithin, origin, Point, wall}
use Rattle.geo_sign.specs.declared.point.TheConstants.{BOX_LIMIT, CORNERS}
use Rattle.geo_sign.specs.Rational.{displaced, side}
use Rattle.geo_sign.proofs.Digits.{side_on_line}
use Rattle.geo_sign.proofs.Identities.{side_digits}
use Rattle.geo_sign.specs.Cells.{IsCell}
use Rattle.geo_sign.specs.Tetrahedron.{facet}
use Rattle.geo_sign.specs.Vertices.{HaveCoordinate, IsWall, orientation_of, Vertices}
use Rattle.geo_sign.specs.Boxes.{IsBoxed}
use Rattle.cell_laws.proofs.Box.{both_negative, data_inner, facet_normal, level, vertex_within}
use Rattle.cell_laws.proofs.Heights.{normal_within}
use Rattle.cell_laws.proofs.Order.{mul_not_above, mul_not_negative}
use Rattle.cell_laws.proofs.Regions.{IsGoal, IsInner, IsOuter}

-- the side of a displaced place, from its four digits
digits :
    (a b c s : Point) → side a b c (displaced s) ≡
    pos (2 ^ 192) *ℤ orientation a b c s +ℤ pos (2 ^ 128) *ℤ (facet_normal a b c).x +ℤ pos (2 ^ 64) *ℤ (facet_normal a b c).y
    +ℤ (facet_normal a b c).z
unfolding side orientation
digits a b c s = sym (side_digits (facet_normal a b c) a s)

not_behind :
    (o x y z : ℤ) → unsigned_abs x ≤ 2 ^ 49 → unsigned_abs y ≤ 2 ^ 49 → unsigned_abs z ≤ 2 ^ 49 →
    (pos (2 ^ 192) *ℤ o +ℤ pos (2 ^ 128) *ℤ x +ℤ pos (2 ^ 64) *ℤ y +ℤ z) <ℤ pos 0 → o ≤ℤ pos 0
not_behind o x y z h k l m = omega (arith, ints)

-- the displaced place of a data point can stand for it
pub goal : (v : Vertices) → IsBoxed v → (p : ℕ) → CORNERS ≤ p → p < v.count → IsGoal v p (displaced (v.at p))
goal v x p h l =
    record {
      near = near;
      sure = λ a b c d k e.
          (let n = facet_normal (v.at a) (v.at b) (v.at c) in
          let w = within a b c d k in
          let z : n ≡ origin = side_on_line (v.at a) (v.at b) (v.at c) (v.at p) n refl w e in
          let o =
          level (v.at a) (v.at b) (v.at c) (v.at d) (ap (λ (q : Point). q.x) z) (ap (λ (q : Point). q.y) z)
          (ap (λ (q : Point). q.z) z) in
          let m = k.positive in
          absurd (omega (arith, ints, o, m)));
      inside = λ a b c d k o.
          by_lt_z (side (v.at a) (v.at b) (v.at c) (displaced (v.at p))) (pos 0)
          (λ m. let n = near a b c d k m in
          let i : IsInner v p = data_inner v x p h l in
          let q = i.strict a b c d k.has_d k.positive o in
          absurd (omega (arith, ints, n, q)))
          (λ m. m);
    }
  where
    within : (a b c d : ℕ) → IsCell v a b c d → IsWithin (2 ^ 49) (facet_normal (v.at a) (v.at b) (v.at c))
    within a b c d k =
        normal_within (v.at a) (v.at b) (v.at c) (vertex_within v x a k.has_a.0) (vertex_within v x b k.has_b.0)
        (vertex_within v x c k.has_c.0)

    near :
        (a b c d : ℕ) → IsCell v a b c d → side (v.at a) (v.at b) (v.at c) (displaced (v.at p)) <ℤ pos 0 →
        orientation_of v a b c p ≤ℤ pos 0
    near a b c d k m =
        let n = facet_normal (v.at a) (v.at b) (v.at c) in
        let w = within a b c d k in
        not_behind (orientation_of v a b c p) n.x n.y n.z w.x_within w.y_within w.z_within
        (subst (λ t. t <ℤ pos 0) (digits (v.at a) (v.at b) (v.at c) (v.at p)) m)

-- ---- a facet on a wall
pub corner_edge : (k bit : ℕ) → (wall k bit ≡ pos BOX_LIMIT) ⊎ (wall k bit ≡ neg_ℤ (pos BOX_LIMIT))
corner_edge k bit = grind (arith, ints)

wall_side :
    (n e d u : ℤ) → (e ≡ pos BOX_LIMIT) ⊎ (e ≡ neg_ℤ (pos BOX_LIMIT)) → unsigned_abs d ≤ BOX_LIMIT → unsigned_abs u ≤ BOX_LIMIT
    → pos 0 <ℤ (n *ℤ (d -ℤ e)) → pos 0 ≤ℤ (n *ℤ (u -ℤ e))
wall_side n e d u (inl q) h k m =
    by_lt_z n (pos 0)
    (λ l. both_negative n (u -ℤ e) (omega (arith, ints)) (omega (arith, ints)))
    (λ l. let z = mul_not_above n (d -ℤ e) l (omega (arith, ints)) in absurd (omega (arith, ints, z, m)))
wall_side n e d u (inr q) h k m =
    by_lt_z (pos 0) n
    (λ l. mul_not_negative n (u -ℤ e) (omega (arith, ints)) (omega (arith, ints)))
    (λ l. let z = both_below n (d -ℤ e) l (omega (arith, ints)) in absurd (omega (arith, ints, z, m)))
  where
    both_below : (a b : ℤ) → a ≤ℤ pos 0 → pos 0 ≤ℤ b → (a *ℤ b) ≤ℤ pos 0
    both_below a b h k = let z = mul_not_above b a k h in let c = *ℤ_comm a b in omega (arith, ints, z, c)

-- the side of a facet in a plane across an axis: of the normal two coordinates are zero
minor_zero : (s t u w k : ℤ) → s ≡ pos 0 → t ≡ pos 0 → ((s *ℤ u -ℤ w *ℤ t) *ℤ k ≡ pos 0) × ((w *ℤ t -ℤ s *ℤ u) *ℤ k ≡ pos 0)
minor_zero s t u w k e f =
    let zero' : Polynomial = constant (pos 0) in
    let left' : Polynomial = product zero' (variable 0) in
    let right' : Polynomial = product (variable 1) zero' in (
      ap₂ (λ x y. (x *ℤ u -ℤ w *ℤ y) *ℤ k) e f
          ∙ ring (u ∷ w ∷ k ∷ []) (product (difference left' right') (variable 2)) zero' tt,
      ap₂ (λ x y. (w *ℤ y -ℤ x *ℤ u) *ℤ k) e f
          ∙ ring (u ∷ w ∷ k ∷ []) (product (difference right' left') (variable 2)) zero' tt,
    )

only : (x y z : ℤ) → y ≡ pos 0 → z ≡ pos 0 → (x +ℤ y +ℤ z ≡ x) × (y +ℤ x +ℤ z ≡ x) × (y +ℤ z +ℤ x ≡ x)
only x y z e f = (omega (arith, ints, e, f), omega (arith, ints, e, f), omega (arith, ints, e, f))

flat_x : (a b c u : Point) → a.x ≡ b.x → a.x ≡ c.x → orientation a b c u ≡ (facet_normal a b c).x *ℤ (u.x -ℤ a.x)
unfolding orientation
flat_x a b c u e f =
    let s : b.x -ℤ a.x ≡ pos 0 = omega (arith, ints, e) in
    let t : c.x -ℤ a.x ≡ pos 0 = omega (arith, ints, f) in
    (only ((facet_normal a b c).x *ℤ (u.x -ℤ a.x)) _ _ (minor_zero (b.x -ℤ a.x) (c.x -ℤ a.x) (c.z -ℤ a.z) (b.z -ℤ a.z) (u.y -ℤ a.y) s t).1
    (minor_zero (b.x -ℤ a.x) (c.x -ℤ a.x) (c.y -ℤ a.y) (b.y -ℤ a.y) (u.z -ℤ a.z) s t).0).0

flat_y : (a b c u : Point) → a.y ≡ b.y → a.y ≡ c.y → orientation a b c u ≡ (facet_normal a b c).y *ℤ (u.y -ℤ a.y)
unfolding orientation
flat_y a b c u e f =
    let s : b.y -ℤ a.y ≡ pos 0 = omega (arith, ints, e) in
    let t : c.y -ℤ a.y ≡ pos 0 = omega (arith, ints, f) in
    (only ((facet_normal a b c).y *ℤ (u.y -ℤ a.y)) _ _ (minor_zero (b.y -ℤ a.y) (c.y -ℤ a.y) (c.z -ℤ a.z) (b.z -ℤ a.z) (u.x -ℤ a.x) s t).0
    (minor_zero (b.y -ℤ a.y) (c.y -ℤ a.y) (c.x -ℤ a.x) (b.x -ℤ a.x) (u.z -ℤ a.z) s t).1).1

flat_z : (a b c u : Point) → a.z ≡ b.z → a.z ≡ c.z → orientation a b c u ≡ (facet_normal a b c).z *ℤ (u.z -ℤ a.z)
unfolding orientation
flat_z a b c u e f =
    let s : b.z -ℤ a.z ≡ pos 0 = omega (arith, ints, e) in
    let t : c.z -ℤ a.z ≡ pos 0 = omega (arith, ints, f) in
    (only ((facet_normal a b c).z *ℤ (u.z -ℤ a.z)) _ _ (minor_zero (b.z -ℤ a.z) (c.z -ℤ a.z) (c.y -ℤ a.y) (b.y -ℤ a.y) (u.x -ℤ a.x) s t).1
    (minor_zero (b.z -ℤ a.z) (c.z -ℤ a.z) (c.x -ℤ a.x) (b.x -ℤ a.x) (u.y -ℤ a.y) s t).0).2

-- a facet of a cell that is on a wall is an outer one
pub wall_outer : (v : Vertices) → IsBoxed v → (a b c d : ℕ) → IsCell v a b c d → IsWall v (facet a b c) → IsOuter v a b c
wall_outer v x a b c d k w u h = pick w.agree
  where
    wd : IsWithin BOX_LIMIT (v.at d)
    wd = vertex_within v x d k.has_d.0

    wu : IsWithin BOX_LIMIT (v.at u)
    wu = vertex_within v x u h.0

    -- along an axis whose coordinate is read by get
    along :
        (get : Point → ℤ) (n : ℤ) → ((q : Point) → orientation (v.at a) (v.at b) (v.at c) q ≡ n *ℤ (get q -ℤ get (v.at a))) →
        (get (corner_point a) ≡ pos BOX_LIMIT) ⊎ (get (corner_point a) ≡ neg_ℤ (pos BOX_LIMIT)) →
        unsigned_abs (get (v.at d)) ≤ BOX_LIMIT → unsigned_abs (get (v.at u)) ≤ BOX_LIMIT → pos 0 ≤ℤ orientation_of v a b c u
    along get n flat e hd hu =
        subst (λ t. pos 0 ≤ℤ t) (sym (flat (v.at u)))
        (wall_side n (get (v.at a)) (get (v.at d)) (get (v.at u))
        (subst (λ (p : Point). (get p ≡ pos BOX_LIMIT) ⊎ (get p ≡ neg_ℤ (pos BOX_LIMIT))) (sym (x.corner_at a w.first)) e) hd
        hu (subst (λ t. pos 0 <ℤ t) (flat (v.at d)) k.positive))

    n : Point
    n = facet_normal (v.at a) (v.at b) (v.at c)

    pick : HaveCoordinate (v.at a) (v.at b) (v.at c) → pos 0 ≤ℤ orientation_of v a b c u
    pick (inl e) =
        along (λ p. p.x) n.x (λ q. flat_x (v.at a) (v.at b) (v.at c) q e.0 e.1) (corner_edge a 1) wd.x_within wu.x_within
    pick (inr (inl e)) =
        along (λ p. p.y) n.y (λ q. flat_y (v.at a) (v.at b) (v.at c) q e.0 e.1) (corner_edge a 2) wd.y_within wu.y_within
    pick (inr (inr e)) =
        along (λ p. p.z) n.z (λ q. flat_z (v.at a) (v.at b) (v.at c) q e.0 e.1) (corner_edge a 4) wd.z_within wu.z_within
