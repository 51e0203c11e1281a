-- Identities that the signs are computed by.
use Rattle.std.proofs.Common.{◌≡◌, ◌^◌, pos, [], ◌+ℤ◌, ◌-ℤ◌, ◌*ℤ◌}
use Rattle.geo_sign.specs.Polynomial.{Polynomial, constant, sum, difference, product}
use Rattle.geo_sign.proofs.Ring.{ring}
use Rattle.geo_sign.specs.Point.{Point, point, step, cross, dot, square}
use Rattle.geo_sign.specs.Orientation.{orientation}
use Rattle.geo_sign.specs.Power.{power, plain_power}
use Rattle.geo_sign.specs.Rational.{displaced}
use Rattle.geo_sign.proofs.Written.{Symbols, symbols, coordinates, step', cross', dot', square', power', A, B, C, D, P}

-- a determinant along its last coordinates
pub expansion : (u v w : Point)
    → (cross v w).z *ℤ u.z +ℤ (pos 0 -ℤ (cross u w).z) *ℤ v.z +ℤ (cross u v).z *ℤ w.z ≡ dot (cross u v) w
expansion u v w =
    let U : Symbols = symbols 0 in let V : Symbols = symbols 3 in let W : Symbols = symbols 6 in
    ring (coordinates u (coordinates v (coordinates w [])))
    (sum (sum (product (cross' V W).z U.z) (product (difference (constant (pos 0)) (cross' U W).z) V.z))
    (product (cross' U V).z W.z))
    (dot' (cross' U V) W) tt

-- the plain power over the differences from p
pub power_by_differences : (a b c d p : Point)
    → square (step p d) *ℤ dot (cross (step p a) (step p b)) (step p c)
    -ℤ square (step p c) *ℤ dot (cross (step p a) (step p b)) (step p d)
    +ℤ square (step p b) *ℤ dot (cross (step p a) (step p c)) (step p d)
    -ℤ square (step p a) *ℤ dot (cross (step p b) (step p c)) (step p d)
    ≡ plain_power a b c d p
unfolding orientation power
power_by_differences a b c d p =
    let lifted = λ (s u v w : Symbols). product (square' (step' P s)) (dot' (cross' (step' P u) (step' P v)) (step' P w)) in
    ring (coordinates a (coordinates b (coordinates c (coordinates d (coordinates p [])))))
    (difference (sum (difference (lifted D A B C) (lifted C A B D)) (lifted B A C D)) (lifted A B C D))
    (power' A B C D P (square' A) (square' B) (square' C) (square' D) (square' P)) tt

-- the side of a displaced scanner, with n for the normal of the facet, in base 2 ^ 64
pub side_digits : (n a s : Point) →
    pos (2 ^ 192) *ℤ dot n (step a s) +ℤ pos (2 ^ 128) *ℤ n.x +ℤ pos (2 ^ 64) *ℤ n.y +ℤ n.z
    ≡ dot n (point ((displaced s).at.x -ℤ (displaced s).over *ℤ a.x) ((displaced s).at.y -ℤ (displaced s).over *ℤ a.y)
    ((displaced s).at.z -ℤ (displaced s).over *ℤ a.z))
side_digits n a s =
    let N : Symbols = symbols 0 in let A : Symbols = symbols 3 in let S : Symbols = symbols 6 in
    let K : Polynomial = constant (pos (2 ^ 192)) in
    let coordinate = λ (x t y : Polynomial). difference (sum (product K x) t) (product K y) in
    ring (coordinates n (coordinates a (coordinates s [])))
    (sum (sum (sum (product K (dot' N (step' A S))) (product (constant (pos (2 ^ 128))) N.x))
    (product (constant (pos (2 ^ 64))) N.y)) N.z)
    (dot' N (record {
      x = coordinate S.x (constant (pos (2 ^ 128))) A.x;
      y = coordinate S.y (constant (pos (2 ^ 64))) A.y;
      z = coordinate S.z (constant (pos 1)) A.z;
    })) tt
