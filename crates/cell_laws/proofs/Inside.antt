-- A place of the box is behind no outer facet.
-- Stands on: Box.
use Rattle.std.proofs.Common.{ℕ, ◌≡◌, ◌≤◌, ◌*◌, subst, ◌∙◌, arith, int_lt, unsigned_abs, ℤ, pos, ◌+ℤ◌, ◌-ℤ◌, ◌*ℤ◌, ◌≤ℤ◌, ◌<ℤ◌}
use Rattle.std.proofs.Common.{[], ◌∷◌}
use Rattle.std.proofs.lemmas.Int.{ints}
use Rattle.geo_sign.specs.Polynomial.{difference, product, sum, variable}
use Rattle.geo_sign.proofs.Ring.{ring}
use Rattle.geo_sign.specs.Orientation.{orientation}
use Rattle.geo_sign.specs.Point.{Point}
use Rattle.geo_sign.specs.declared.point.TheConstants.{BOX_LIMIT}
use Rattle.geo_sign.specs.Rational.{RationalPoint, side}
use Rattle.geo_sign.proofs.Written.{coordinates, cross', orientation', RationalSymbols, side', step', Symbols, symbols, A, B, C}
use Rattle.geo_sign.proofs.SignTests.{below_true}
use Rattle.geo_sign.specs.Vertices.{Vertices}
use Rattle.geo_sign.specs.Boxes.{IsBoxed}
use Rattle.geo_sign.specs.Places.{IsInBox}
use Rattle.cell_laws.proofs.Box.{both_negative, facet_normal, far, far_below, far_place, low, lowest, test_above}
use Rattle.cell_laws.proofs.Order.{mul_not_negative}
use Rattle.cell_laws.proofs.Regions.{IsOuter}

axis_over : (n p w : ℤ) → pos 0 <ℤ w → unsigned_abs p ≤ BOX_LIMIT * unsigned_abs w → pos 0 ≤ℤ (n *ℤ (p -ℤ low n *ℤ w))
axis_over n p w o h = grind (arith, ints, both_negative, below_true, mul_not_negative, test_above)

side_shift :
    (a b c w : Point) (q : RationalPoint) → side a b c q ≡
    q.over *ℤ orientation a b c w
    +ℤ ((facet_normal a b c).x *ℤ (q.at.x -ℤ w.x *ℤ q.over) +ℤ (facet_normal a b c).y *ℤ (q.at.y -ℤ w.y *ℤ q.over)
    +ℤ (facet_normal a b c).z *ℤ (q.at.z -ℤ w.z *ℤ q.over))
unfolding side orientation
side_shift a b c w q =
    let W : Symbols = symbols 9 in
    let Q : RationalSymbols = record { at = symbols 12; over = variable 15 } in
    let N : Symbols = cross' (step' A B) (step' A C) in
    ring (coordinates a (coordinates b (coordinates c (coordinates w (coordinates q.at (q.over ∷ [])))))) (side' A B C Q)
    (sum (product (variable 15) (orientation' A B C W))
    (sum (sum (product N.x (difference Q.at.x (product W.x (variable 15))))
    (product N.y (difference Q.at.y (product W.y (variable 15)))))
    (product N.z (difference Q.at.z (product W.z (variable 15)))))) tt

pub box_inside :
    (v : Vertices) → IsBoxed v → (q : RationalPoint) → IsInBox q → (a b c : ℕ) → IsOuter v a b c →
    pos 0 ≤ℤ side (v.at a) (v.at b) (v.at c) q
box_inside v x q h a b c o =
    let n = facet_normal (v.at a) (v.at b) (v.at c) in
    let i = int_lt n.x (pos 0) in
    let j = int_lt n.y (pos 0) in
    let k = int_lt n.z (pos 0) in
    let e : v.at (far i j k) ≡ lowest n = x.corner_at (far i j k) (far_below i j k) ∙ far_place i j k in
    let z : pos 0 ≤ℤ orientation (v.at a) (v.at b) (v.at c) (lowest n) =
    subst (λ (p : Point). pos 0 ≤ℤ orientation (v.at a) (v.at b) (v.at c) p) e
    (o (far i j k) (x.corner_in (far i j k) (far_below i j k))) in
    let p = h.over_positive in
    let y = mul_not_negative q.over (orientation (v.at a) (v.at b) (v.at c) (lowest n)) (omega (arith, ints, p)) z in
    let f = side_shift (v.at a) (v.at b) (v.at c) (lowest n) q in
    let t = axis_over n.x q.at.x q.over h.over_positive h.x_within in
    let u = axis_over n.y q.at.y q.over h.over_positive h.y_within in
    let m = axis_over n.z q.at.z q.over h.over_positive h.z_within in
    omega (arith, ints, f, y, t, u, m)
