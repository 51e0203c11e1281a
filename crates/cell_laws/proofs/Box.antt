-- What is outer in the box. A facet is outer where all vertices that are in are before it or in its plane. Each axis of the
-- normal has one wall that is lowest along it, so one corner of the box is lowest along the normal, and it is in. An outer
-- facet has that corner in its plane or before it; then each of the facet's own vertices is as low along each axis as the box,
-- or the facet is level there.
-- A facet of a cell is not level along all axes, so along some axis all three vertices are on one wall: they are corners, since
-- data points are strictly inside. So an outer facet of a cell is on a wall, and each data point is strictly before every
-- outer facet.
-- Stands on: Order, Writing, and geo_sign's places.
use Rattle.std.proofs.Common.{ℕ, zero, suc, ◌≡◌, ◌≢◌, ◌<◌, ◌≤◌, refl, sym, subst, ◌∙◌, ◌⊎◌, inl, inr, ⊎_elim, arith, ◌+◌, Bool}
use Rattle.std.proofs.Common.{true, false, cond, int_lt, unsigned_abs, ℤ, pos, negsuc, neg_ℤ, ◌+ℤ◌, ◌-ℤ◌, ◌*ℤ◌, ◌≤ℤ◌, []}
use Rattle.std.proofs.lemmas.Bool.{cases_lt}
use Rattle.std.proofs.lemmas.Int.{ints, by_lt_z}
use lib.IntN.{zero-*ℤ}
use Rattle.geo_sign.specs.Polynomial.{difference, product, sum}
use Rattle.geo_sign.proofs.Ring.{ring}
use Rattle.geo_sign.specs.Orientation.{orientation}
use Rattle.geo_sign.specs.Point.{corner_point, cross, IsWithin, Point, point, step}
use Rattle.geo_sign.specs.declared.point.TheConstants.{BOX_LIMIT, CORNERS, DATA_LIMIT}
use Rattle.geo_sign.proofs.Written.{coordinates, cross', orientation', step', Symbols, symbols, A, B, C, P}
use Rattle.geo_sign.specs.Cells.{IsCell}
use Rattle.geo_sign.specs.Tetrahedron.{facet}
use Rattle.geo_sign.specs.Vertices.{HaveCoordinate, IsWall, orientation_of, Vertices}
use Rattle.geo_sign.specs.Boxes.{IsBoxed}
use Rattle.geo_sign.proofs.Exchanges.{flat_a, flat_b, flat_c}
use Rattle.geo_sign.proofs.SignTests.{below_true}
use Rattle.geo_sign.proofs.Corners.{corner_within}
use Rattle.geo_sign.proofs.RingLaws.{neg-*ℤ}
use Rattle.geo_sign.proofs.Bounds.{data_in_box}
use Rattle.cell_laws.proofs.Order.{factor_none, mul_not_negative}
use Rattle.cell_laws.proofs.Regions.{IsInner, IsOuter}

-- ---- the corner that is lowest along a direction
abbrev pub edge : Bool → ℤ
edge true = pos BOX_LIMIT
edge false = neg_ℤ (pos BOX_LIMIT)

abbrev pub far : Bool → Bool → Bool → ℕ
far i j k = cond i 1 0 + cond j 2 0 + cond k 4 0

bit_below : (b : Bool) (n : ℕ) → cond b n 0 ≤ n
bit_below true n = omega arith
bit_below false n = omega arith

pub far_below : (i j k : Bool) → far i j k < 8
far_below i j k = omega (arith, bit_below i 1, bit_below j 2, bit_below k 4)

pub far_place : (i j k : Bool) → corner_point (far i j k) ≡ point (edge i) (edge j) (edge k)
far_place false false false = refl
far_place true false false = refl
far_place false true false = refl
far_place true true false = refl
far_place false false true = refl
far_place true false true = refl
far_place false true true = refl
far_place true true true = refl

abbrev pub low : ℤ → ℤ
low n = edge (int_lt n (pos 0))

pub test_above : (n : ℤ) → int_lt n (pos 0) ≡ false → pos 0 ≤ℤ n
test_above n h = grind (arith, ints)

pub both_negative : (a b : ℤ) → a ≤ℤ pos 0 → b ≤ℤ pos 0 → pos 0 ≤ℤ (a *ℤ b)
both_negative a b h k = grind (arith, ints, mul_not_negative, ring)

axis : (n p : ℤ) → unsigned_abs p ≤ BOX_LIMIT → pos 0 ≤ℤ (n *ℤ (p -ℤ low n))
axis n p h = grind (arith, ints, both_negative, below_true, mul_not_negative, test_above)

-- ---- where the vertices are
pub vertex_within : (v : Vertices) → IsBoxed v → (u : ℕ) → u < v.count → IsWithin BOX_LIMIT (v.at u)
vertex_within v x u h =
    ⊎_elim (λ (l : u < 8). subst (λ p. IsWithin BOX_LIMIT p) (sym (x.corner_at u l)) (corner_within u))
    (λ (l : 8 ≤ u). data_in_box (v.at u) (x.data_at u l h)) (cases_lt u 8)

-- ---- a facet's plane at two points
abbrev pub facet_normal : Point → Point → Point → Point
facet_normal a b c = cross (step a b) (step a c)

abbrev pub lowest : Point → Point
lowest n = point (low n.x) (low n.y) (low n.z)

shift :
    (a b c w p : Point) → orientation a b c p ≡
    orientation a b c w +ℤ ((facet_normal a b c).x *ℤ (p.x -ℤ w.x) +ℤ (facet_normal a b c).y *ℤ (p.y -ℤ w.y)
    +ℤ (facet_normal a b c).z *ℤ (p.z -ℤ w.z))
unfolding orientation
shift a b c w p =
    let W : Symbols = symbols 9 in
    let N : Symbols = cross' (step' A B) (step' A C) in
    ring (coordinates a (coordinates b (coordinates c (coordinates w (coordinates p []))))) (orientation' A B C P)
    (sum (orientation' A B C W)
    (sum (sum (product N.x (difference P.x W.x)) (product N.y (difference P.y W.y))) (product N.z (difference P.z W.z)))) tt

-- what is left over the lowest corner, along each axis
abbrev over_x : Vertices → (a b c : ℕ) → Point → ℤ
over_x v a b c p = (facet_normal (v.at a) (v.at b) (v.at c)).x *ℤ (p.x -ℤ low (facet_normal (v.at a) (v.at b) (v.at c)).x)

abbrev over_y : Vertices → (a b c : ℕ) → Point → ℤ
over_y v a b c p = (facet_normal (v.at a) (v.at b) (v.at c)).y *ℤ (p.y -ℤ low (facet_normal (v.at a) (v.at b) (v.at c)).y)

abbrev over_z : Vertices → (a b c : ℕ) → Point → ℤ
over_z v a b c p = (facet_normal (v.at a) (v.at b) (v.at c)).z *ℤ (p.z -ℤ low (facet_normal (v.at a) (v.at b) (v.at c)).z)

-- a point of the box over an outer facet
record Over (v : Vertices) (a b c : ℕ) (p : Point) : Type 0 where
  bottom : ℤ
  is : orientation (v.at a) (v.at b) (v.at c) p ≡ bottom +ℤ (over_x v a b c p +ℤ over_y v a b c p +ℤ over_z v a b c p)
  bottom_in : pos 0 ≤ℤ bottom
  x_in : pos 0 ≤ℤ over_x v a b c p
  y_in : pos 0 ≤ℤ over_y v a b c p
  z_in : pos 0 ≤ℤ over_z v a b c p

over : (v : Vertices) → IsBoxed v → (a b c : ℕ) → IsOuter v a b c → (p : Point) → IsWithin BOX_LIMIT p → Over v a b c p
over v x a b c o p w =
    let n = facet_normal (v.at a) (v.at b) (v.at c) in
    let i = int_lt n.x (pos 0) in
    let j = int_lt n.y (pos 0) in
    let k = int_lt n.z (pos 0) in
    let e : v.at (far i j k) ≡ lowest n = x.corner_at (far i j k) (far_below i j k) ∙ far_place i j k in
    record {
      bottom = orientation (v.at a) (v.at b) (v.at c) (lowest n);
      is = shift (v.at a) (v.at b) (v.at c) (lowest n) p;
      bottom_in =
          subst (λ (q : Point). pos 0 ≤ℤ orientation (v.at a) (v.at b) (v.at c) q) e
          (o (far i j k) (x.corner_in (far i j k) (far_below i j k)));
      x_in = axis n.x p.x w.x_within;
      y_in = axis n.y p.y w.y_within;
      z_in = axis n.z p.z w.z_within;
    }

-- ---- a point in the plane of an outer facet
pub factor_is_zero : (a b : ℤ) → a *ℤ b ≡ pos 0 → (a ≡ pos 0) ⊎ (b ≡ pos 0)
factor_is_zero a b e = grind (arith, ints, by_lt_z, factor_none, neg-*ℤ)

-- along each axis the facet is level, or the point is as low as the box
record Down (n p : Point) : Type 0 where
  x_down : (n.x ≡ pos 0) ⊎ (p.x ≡ low n.x)
  y_down : (n.y ≡ pos 0) ⊎ (p.y ≡ low n.y)
  z_down : (n.z ≡ pos 0) ⊎ (p.z ≡ low n.z)

settle : (n p l : ℤ) → n *ℤ (p -ℤ l) ≡ pos 0 → (n ≡ pos 0) ⊎ (p ≡ l)
settle n p l e = ⊎_elim (λ h. inl h) (λ h. inr (omega (arith, ints, h))) (factor_is_zero n (p -ℤ l) e)

down :
    (v : Vertices) → IsBoxed v → (a b c : ℕ) → IsOuter v a b c → (p : Point) → IsWithin BOX_LIMIT p →
    orientation (v.at a) (v.at b) (v.at c) p ≤ℤ pos 0 → Down (facet_normal (v.at a) (v.at b) (v.at c)) p
down v x a b c o p w h =
    let z = over v x a b c o p w in
    let e = z.is in let f = z.bottom_in in let i = z.x_in in let j = z.y_in in let k = z.z_in in
    let n = facet_normal (v.at a) (v.at b) (v.at c) in
    record {
      x_down = settle n.x p.x (low n.x) (omega (arith, ints, e, f, i, j, k, h));
      y_down = settle n.y p.y (low n.y) (omega (arith, ints, e, f, i, j, k, h));
      z_down = settle n.z p.z (low n.z) (omega (arith, ints, e, f, i, j, k, h));
    }

-- a facet of three points that is not level along all axes
pub level :
    (a b c d : Point) → (facet_normal a b c).x ≡ pos 0 → (facet_normal a b c).y ≡ pos 0 → (facet_normal a b c).z ≡ pos 0 →
    orientation a b c d ≡ pos 0
unfolding orientation
level a b c d e f g = grind (arith, zero-*ℤ)

not_within : (n p : ℤ) → p ≡ low n → unsigned_abs p ≤ DATA_LIMIT → ⊥
not_within n p e h = grind (arith, ints)

not_low : (n p : ℤ) → unsigned_abs p ≤ DATA_LIMIT → (n ≡ pos 0) ⊎ (p ≡ low n) → n ≡ pos 0
not_low n p h (inl e) = e
not_low n p h (inr e) = absurd (not_within n p e h)

-- a data point is before each outer facet of a cell
pub data_inner : (v : Vertices) → IsBoxed v → (p : ℕ) → CORNERS ≤ p → p < v.count → IsInner v p
data_inner v x p h l =
    record {
      weak = λ a b c o.
          (let q = over v x a b c o (v.at p) (vertex_within v x p l) in
          let e = q.is in let f = q.bottom_in in let i = q.x_in in let j = q.y_in in let k = q.z_in in
          omega (arith, ints, e, f, i, j, k));
      strict = λ a b c d hd k o.
          by_lt_z (pos 0) (orientation_of v a b c p) (λ m. m)
          (λ m.
          let w = x.data_at p h l in
          let n = facet_normal (v.at a) (v.at b) (v.at c) in
          let y = down v x a b c o (v.at p) (vertex_within v x p l) m in
          let z =
          level (v.at a) (v.at b) (v.at c) (v.at d) (not_low n.x (v.at p).x w.x_within y.x_down)
          (not_low n.y (v.at p).y w.y_within y.y_down) (not_low n.z (v.at p).z w.z_within y.z_down) in
          absurd (omega (arith, ints, z, k)));
    }

zero_or_not : (z : ℤ) → (z ≡ pos 0) ⊎ (z ≢ pos 0)
zero_or_not (pos zero) = inl refl
zero_or_not (pos (suc n)) = inr (λ e. absurd (omega (arith, ints, e)))
zero_or_not (negsuc n) = inr (λ e. absurd (omega (arith, ints, e)))

-- a vertex at an edge of the box is a corner
is_corner : (v : Vertices) → IsBoxed v → (u : ℕ) → u < v.count → (((w : IsWithin DATA_LIMIT (v.at u)) → ⊥)) → u < CORNERS
is_corner v x u h f = ⊎_elim (λ l. l) (λ (l : 8 ≤ u). absurd (f (x.data_at u l h))) (cases_lt u 8)

at_low : (n p : ℤ) → n ≢ pos 0 → (n ≡ pos 0) ⊎ (p ≡ low n) → p ≡ low n
at_low n p h (inl e) = absurd (h e)
at_low n p h (inr e) = e

-- an outer facet of a cell is on a wall
pub outer_wall : (v : Vertices) → IsBoxed v → (a b c d : ℕ) → IsCell v a b c d → IsOuter v a b c → IsWall v (facet a b c)
outer_wall v x a b c d k o =
    ⊎_elim (λ e. ⊎_elim
    (λ f. ⊎_elim
    (λ g. absurd (let z = level (v.at a) (v.at b) (v.at c) (v.at d) e f g in let q = k.positive in omega (arith, ints, z, q)))
    (along (λ p. p.z) n.z da.z_down db.z_down dc.z_down (λ p w. w.z_within) (λ h. inr (inr h))) (zero_or_not n.z))
    (along (λ p. p.y) n.y da.y_down db.y_down dc.y_down (λ p w. w.y_within) (λ h. inr (inl h))) (zero_or_not n.y))
    (along (λ p. p.x) n.x da.x_down db.x_down dc.x_down (λ p w. w.x_within) (λ h. inl h)) (zero_or_not n.x)
  where
    n : Point
    n = facet_normal (v.at a) (v.at b) (v.at c)

    da : Down n (v.at a)
    da =
        down v x a b c o (v.at a) (vertex_within v x a k.has_a.0)
        (let z = flat_a (v.at a) (v.at b) (v.at c) in omega (arith, ints, z))

    db : Down n (v.at b)
    db =
        down v x a b c o (v.at b) (vertex_within v x b k.has_b.0)
        (let z = flat_b (v.at a) (v.at b) (v.at c) in omega (arith, ints, z))

    dc : Down n (v.at c)
    dc =
        down v x a b c o (v.at c) (vertex_within v x c k.has_c.0)
        (let z = flat_c (v.at a) (v.at b) (v.at c) in omega (arith, ints, z))

    -- along an axis whose coordinate is read by get
    along :
        (get : Point → ℤ) (m : ℤ) → (m ≡ pos 0) ⊎ (get (v.at a) ≡ low m) → (m ≡ pos 0) ⊎ (get (v.at b) ≡ low m) →
        (m ≡ pos 0) ⊎ (get (v.at c) ≡ low m) →
        ((p : Point) → IsWithin DATA_LIMIT p → unsigned_abs (get p) ≤ DATA_LIMIT) →
        ((get (v.at a) ≡ get (v.at b)) × (get (v.at a) ≡ get (v.at c)) → HaveCoordinate (v.at a) (v.at b) (v.at c)) →
        m ≢ pos 0 → IsWall v (facet a b c)
    along get m ga gb gc within agree h =
        let ea = at_low m (get (v.at a)) h ga in
        let eb = at_low m (get (v.at b)) h gb in
        let ec = at_low m (get (v.at c)) h gc in
        record {
          first = is_corner v x a k.has_a.0 (λ w. not_within m (get (v.at a)) ea (within (v.at a) w));
          second = is_corner v x b k.has_b.0 (λ w. not_within m (get (v.at b)) eb (within (v.at b) w));
          third = is_corner v x c k.has_c.0 (λ w. not_within m (get (v.at c)) ec (within (v.at c) w));
          agree = agree (ea ∙ sym eb, ea ∙ sym ec);
        }
