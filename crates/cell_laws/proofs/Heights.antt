-- The heights of the tie rule make vertices of the box generic and convex. Generic: at a fifth vertex the power is below zero
-- or above it, as the base decides by the greatest number. Convex: the plain power of a point that lies in a cell is minus a
-- sum of four products, each a side of the point times the squared distance of a vertex from it; the sides are not negative,
-- not all of them are zero, and the point is none of the vertices, so the plain power is below zero and decides before any tie.
-- Stands on: geo_sign's law of ties, Box and Insert (a vertex is one of four or none).
use Rattle.std.proofs.Common.{ℕ, ◌≡◌, ◌≢◌, ◌<◌, ◌^◌, refl, ap, sym, subst, ◌∙◌, ◌⊎◌, inl, inr, ⊎_elim, arith, Bool, true, false}
use Rattle.std.proofs.Common.{ℤ, pos, negsuc, neg_ℤ, ◌+ℤ◌, ◌-ℤ◌, ◌*ℤ◌, ◌≤ℤ◌, ◌<ℤ◌, []}
use Rattle.std.proofs.lemmas.Int.{ints, by_lt_z}
use Rattle.geo_sign.specs.Polynomial.{difference, negation, product, sum}
use Rattle.geo_sign.proofs.Ring.{ring}
use Rattle.geo_sign.specs.Orientation.{orientation}
use Rattle.geo_sign.specs.Point.{cross, IsWithin, Point, point, square, step}
use Rattle.geo_sign.specs.declared.point.TheConstants.{BOX_LIMIT}
use Rattle.geo_sign.specs.Power.{plain_power, power}
use Rattle.geo_sign.specs.Rational.{rational}
use Rattle.geo_sign.specs.Signs.{first_sign, sign_of}
use Rattle.geo_sign.proofs.Bounds.{step_within, cross_within}
use Rattle.geo_sign.proofs.Digits.{sign_below}
use Rattle.geo_sign.proofs.Written.{coordinates, dot', orientation', step', Symbols, A, B, C, D, P}
use Rattle.geo_sign.specs.Conflict.{AreApart, AreBelow}
use Rattle.geo_sign.specs.Terms.{deciding_term, is_below_zero}
use Rattle.geo_sign.specs.Tetrahedron.{Tetrahedron, tetrahedron}
use Rattle.geo_sign.specs.Vertices.{orientation_of, power_of, Vertices}
use Rattle.geo_sign.proofs.Ties.{decided, five_kept}
use Rattle.geo_sign.specs.Boxes.{IsBoxed}
use Rattle.geo_sign.specs.Places.{IsLyingIn}
use Rattle.geo_sign.specs.Writings.{IsVertexOf}
use Rattle.geo_sign.proofs.CellRows.{distinct}
use Rattle.geo_sign.proofs.CornerCells.{power_tied, tied}
use Rattle.geo_sign.proofs.Exchanges.{point_side}
use Rattle.cell_laws.proofs.Box.{factor_is_zero, vertex_within}
use Rattle.cell_laws.proofs.Insert.{IsNoneOf, of_or_not}
use Rattle.cell_laws.proofs.Order.{mul_not_negative, mul_positive}
use Rattle.cell_laws.proofs.Regions.{IsConvex, IsGeneric}

-- ---- how large a normal is
pub normal_within :
    (a b c : Point) → IsWithin BOX_LIMIT a → IsWithin BOX_LIMIT b → IsWithin BOX_LIMIT c →
    IsWithin (2 ^ 49) (cross (step a b) (step a c))
normal_within a b c h k l = cross_within (step a b) (step a c) (step_within a b h k) (step_within a c h l)

-- ---- the power by the tie rule
-- four vertices written positively, and a fifth that is none of them
pub record AreFive (v : Vertices) (r : Tetrahedron) (u : ℕ) : Type 0 where
  pub a_below : r.a < v.count
  pub b_below : r.b < v.count
  pub c_below : r.c < v.count
  pub d_below : r.d < v.count
  pub u_below : u < v.count
  pub positive : pos 0 <ℤ orientation_of v r.a r.b r.c r.d
  pub none : IsNoneOf r u

-- the power is below zero or above it
abbrev Decided : Vertices → Tetrahedron → ℕ → Type 0
Decided v r u =
    (x : Bool) × (x ≡ is_below_zero
    (first_sign (sign_of (plain_power (v.at r.a) (v.at r.b) (v.at r.c) (v.at r.d) (v.at u)))
    (deciding_term (tied v r.a) (tied v r.b) (tied v r.c) (tied v r.d) (tied v u)).sign))
    × ((x ≡ true) → power_of v r.a r.b r.c r.d u <ℤ pos 0) × ((x ≡ false) → pos 0 <ℤ power_of v r.a r.b r.c r.d u)

decide : (v : Vertices) → IsBoxed v → (r : Tetrahedron) (u : ℕ) → AreFive v r u → Decided v r u
decide v x r u h =
    let a = tied v r.a in let b = tied v r.b in let c = tied v r.c in let d = tied v r.d in let p = tied v u in
    let wa = vertex_within v x r.a h.a_below in
    let wb = vertex_within v x r.b h.b_below in
    let wc = vertex_within v x r.c h.c_below in
    let wd = vertex_within v x r.d h.d_below in
    let wu = vertex_within v x u h.u_below in
    let n = distinct v r h.positive in
    let below : AreBelow v.count a b c d p =
    record { a_below = h.a_below; b_below = h.b_below; c_below = h.c_below; d_below = h.d_below; p_below = h.u_below } in
    let apart : AreApart a b c d p = record {
      a_b = λ e. n.b_a (sym e);
      a_c = λ e. n.c_a (sym e);
      a_d = λ e. n.d_a (sym e);
      a_p = h.none.a;
      b_c = λ e. n.c_b (sym e);
      b_d = λ e. n.d_b (sym e);
      b_p = h.none.b;
      c_d = λ e. n.d_c (sym e);
      c_p = h.none.c;
      d_p = h.none.d;
    } in
    let y = is_below_zero (first_sign (sign_of (plain_power a.1 b.1 c.1 d.1 p.1)) (deciding_term a b c d p).sign) in
    let z = decided a b c d p y apart (five_kept a.1 b.1 c.1 d.1 p.1 (wa, wb, wc, wd, wu)) h.positive refl v.count below in
    let e = power_tied v x.tied r.a r.b r.c r.d u in
    (y, refl, λ k. (let m = z.0.0 k in omega (arith, ints, e, m)), λ k. (let m = z.1.0 k in omega (arith, ints, e, m)))

pub tied_generic : (v : Vertices) → IsBoxed v → IsGeneric v
tied_generic v x a b c d u ha hb hc hd hu o e = pick (of_or_not (tetrahedron a b c d) u)
  where
    by :
        IsNoneOf (tetrahedron a b c d) u → (y : Bool) → (y ≡ true → power_of v a b c d u <ℤ pos 0) →
        (y ≡ false → pos 0 <ℤ power_of v a b c d u) → ⊥
    by n true f g = let m = f refl in absurd (omega (arith, ints, e, m))
    by n false f g = let m = g refl in absurd (omega (arith, ints, e, m))

    pick : IsVertexOf (tetrahedron a b c d) u ⊎ IsNoneOf (tetrahedron a b c d) u → (u ≡ a) ⊎ ((u ≡ b) ⊎ ((u ≡ c) ⊎ (u ≡ d)))
    pick (inl h) = h
    pick (inr n) =
        let z =
        decide v x (tetrahedron a b c d) u
        (record { a_below = ha; b_below = hb; c_below = hc; d_below = hd; u_below = hu; positive = o; none = n }) in
        absurd (by n z.0 z.2 z.3)

-- ---- a point inside a cell is inside its sphere
plain_sum :
    (a b c d p : Point) → plain_power a b c d p ≡
    neg_ℤ (square (step a p) *ℤ orientation b d c p +ℤ square (step b p) *ℤ orientation a c d p
    +ℤ square (step c p) *ℤ orientation a d b p +ℤ square (step d p) *ℤ orientation a b c p)
unfolding orientation power
plain_sum a b c d p =
    let sq = λ (u : Symbols). dot' (step' u P) (step' u P) in
    ring (coordinates a (coordinates b (coordinates c (coordinates d (coordinates p [])))))
    (difference (product (orientation' A B C D) (dot' P P))
    (sum (sum (sum (product (dot' A A) (orientation' P B C D)) (product (dot' B B) (orientation' A P C D)))
    (product (dot' C C) (orientation' A B P D))) (product (dot' D D) (orientation' A B C P))))
    (negation (sum
    (sum (sum (product (sq A) (orientation' B D C P)) (product (sq B) (orientation' A C D P)))
    (product (sq C) (orientation' A D B P))) (product (sq D) (orientation' A B C P)))) tt

sides_sum :
    (a b c d p : Point) →
    orientation a b c d ≡ orientation b d c p +ℤ orientation a c d p +ℤ orientation a d b p +ℤ orientation a b c p
unfolding orientation
sides_sum a b c d p =
    ring (coordinates a (coordinates b (coordinates c (coordinates d (coordinates p []))))) (orientation' A B C D)
    (sum (sum (sum (orientation' B D C P) (orientation' A C D P)) (orientation' A D B P)) (orientation' A B C P)) tt

square_in : (z : ℤ) → pos 0 ≤ℤ (z *ℤ z)
square_in (pos n) = mul_not_negative (pos n) (pos n) (omega (arith, ints)) (omega (arith, ints))
square_in (negsuc n) = grind (arith, ints, mul_not_negative, ring)

root : (z : ℤ) → z *ℤ z ≡ pos 0 → z ≡ pos 0
root z e = ⊎_elim (λ h. h) (λ h. h) (factor_is_zero z z e)

same_place : (a p : Point) → p.x -ℤ a.x ≡ pos 0 → p.y -ℤ a.y ≡ pos 0 → p.z -ℤ a.z ≡ pos 0 → a ≡ p
same_place a p e f g =
    let i : a.x ≡ p.x = omega (arith, ints, e) in
    let j : a.y ≡ p.y = omega (arith, ints, f) in
    let k : a.z ≡ p.z = omega (arith, ints, g) in
    ap (λ t. point t a.y a.z) i ∙ ap (λ t. point p.x t a.z) j ∙ ap (λ t. point p.x p.y t) k

square_above : (a p : Point) → a ≢ p → pos 0 <ℤ square (step a p)
square_above a p n =
    let t = step a p in
    let i = square_in t.x in let j = square_in t.y in let k = square_in t.z in
    by_lt_z (pos 0) (square t) (λ l. l)
    (λ l. absurd
    (n (same_place a p (root t.x (omega (arith, ints, i, j, k, l))) (root t.y (omega (arith, ints, i, j, k, l)))
    (root t.z (omega (arith, ints, i, j, k, l))))))

part_zero : (s o : ℤ) → pos 0 <ℤ s → pos 0 ≤ℤ o → (s *ℤ o) ≤ℤ pos 0 → o ≤ℤ pos 0
part_zero s o h k m = by_lt_z (pos 0) o (λ l. let n = mul_positive s o h l in absurd (omega (arith, ints, n, m))) (λ l. l)

product_in : (s o : ℤ) → pos 0 <ℤ s → pos 0 ≤ℤ o → pos 0 ≤ℤ (s *ℤ o)
product_in s o h k = mul_not_negative s o (omega (arith, ints)) k

-- four sides that are not negative, of which one is positive, times four squares
weighted :
    (s t u v i j k l o : ℤ) → pos 0 <ℤ s → pos 0 <ℤ t → pos 0 <ℤ u → pos 0 <ℤ v → pos 0 ≤ℤ i → pos 0 ≤ℤ j → pos 0 ≤ℤ k →
    pos 0 ≤ℤ l → pos 0 <ℤ o → o ≡ i +ℤ j +ℤ k +ℤ l →
    pos 0 <ℤ (s *ℤ i +ℤ t *ℤ j +ℤ u *ℤ k +ℤ v *ℤ l)
weighted s t u v i j k l o hs ht hu hv hi hj hk hl ho e =
    let a = product_in s i hs hi in
    let b = product_in t j ht hj in
    let c = product_in u k hu hk in
    let d = product_in v l hv hl in
    by_lt_z (pos 0) (s *ℤ i +ℤ t *ℤ j +ℤ u *ℤ k +ℤ v *ℤ l) (λ m. m)
    (λ m.
    let w = part_zero s i hs hi (omega (arith, ints, a, b, c, d, m)) in
    let x = part_zero t j ht hj (omega (arith, ints, a, b, c, d, m)) in
    let y = part_zero u k hu hk (omega (arith, ints, a, b, c, d, m)) in
    let z = part_zero v l hv hl (omega (arith, ints, a, b, c, d, m)) in
    absurd (omega (arith, ints, w, x, y, z, e, ho)))

plain_inside :
    (v : Vertices) → IsBoxed v → (r : Tetrahedron) (u : ℕ) → AreFive v r u → IsLyingIn v r (rational (v.at u)) →
    plain_power (v.at r.a) (v.at r.b) (v.at r.c) (v.at r.d) (v.at u) <ℤ pos 0
plain_inside v x r u h l =
    let a = v.at r.a in let b = v.at r.b in let c = v.at r.c in let d = v.at r.d in let p = v.at u in
    let e = plain_sum a b c d p in
    let m =
    weighted (square (step a p)) (square (step b p)) (square (step c p)) (square (step d p)) (orientation b d c p)
    (orientation a c d p) (orientation a d b p) (orientation a b c p) (orientation a b c d)
    (square_above a p (λ y. h.none.a (x.apart r.a u h.a_below h.u_below y)))
    (square_above b p (λ y. h.none.b (x.apart r.b u h.b_below h.u_below y)))
    (square_above c p (λ y. h.none.c (x.apart r.c u h.c_below h.u_below y)))
    (square_above d p (λ y. h.none.d (x.apart r.d u h.d_below h.u_below y)))
    (subst (λ t. pos 0 ≤ℤ t) (point_side b d c p) (l.at 0)) (subst (λ t. pos 0 ≤ℤ t) (point_side a c d p) (l.at 1))
    (subst (λ t. pos 0 ≤ℤ t) (point_side a d b p) (l.at 2)) (subst (λ t. pos 0 ≤ℤ t) (point_side a b c p) (l.at 3))
    h.positive (sides_sum a b c d p) in
    omega (arith, ints, e, m)

pub tied_convex : (v : Vertices) → IsBoxed v → IsConvex v
tied_convex v x r u ha hb hc hd hu o l k = pick (of_or_not r u)
  where
    pick : IsVertexOf r u ⊎ IsNoneOf r u → IsVertexOf r u
    pick (inl h) = h
    pick (inr n) =
        let five : AreFive v r u =
        record { a_below = ha; b_below = hb; c_below = hc; d_below = hd; u_below = hu; positive = o; none = n } in
        let z = decide v x r u five in
        let tie = (deciding_term (tied v r.a) (tied v r.b) (tied v r.c) (tied v r.d) (tied v u)).sign in
        let m =
        z.2 (z.1 ∙ ap (λ y. is_below_zero (first_sign y tie))
        (sign_below (plain_power (v.at r.a) (v.at r.b) (v.at r.c) (v.at r.d) (v.at u)) (plain_inside v x r u five l))) in
        absurd (omega (arith, ints, m, k))
