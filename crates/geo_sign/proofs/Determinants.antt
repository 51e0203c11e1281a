-- Cramer's rule and what follows from it, by multiplying out.
use Rattle.std.proofs.Common.{ℤ, List, []}
use Rattle.geo_sign.specs.Polynomial.{Polynomial, sum, product, negation}
use Rattle.geo_sign.specs.Point.{Point}
use Rattle.geo_sign.specs.Orientation.{orientation}
use Rattle.geo_sign.specs.Power.{power}
use Rattle.geo_sign.specs.DeterminantLaws.{CramerLaw, OrientationIsSum, PointIsSum, PowerIsSum}
use Rattle.geo_sign.proofs.Ring.{ring}
use Rattle.geo_sign.proofs.Written.{Symbols, symbols, coordinates, step', cross', dot', square', orientation', power', A, B, C, D, P}

-- ---- vectors
abbrev determinant' : (u v w : Symbols) → Polynomial
determinant' u v w = dot' (cross' u v) w

abbrev four : (w x y z : Point) → List ℤ
four w x y z = coordinates w (coordinates x (coordinates y (coordinates z [])))

-- the rule in the coordinates w, x, y, z of the vectors W, X, Y, Z
abbrev left' : (x : Polynomial) → Polynomial
left' x = product x (determinant' (symbols 0) (symbols 6) (symbols 9))

abbrev right' : (w y z : Polynomial) → Polynomial
right' w y z =
    sum
    (sum (product w (determinant' (symbols 3) (symbols 6) (symbols 9)))
    (product y (determinant' (symbols 0) (symbols 3) (symbols 9))))
    (product z (determinant' (symbols 0) (symbols 6) (symbols 3)))

pub cramer : CramerLaw
cramer = record {
  in_x = λ w x y z.
      ring (four w x y z) (left' (symbols 3).x) (right' (symbols 0).x (symbols 6).x (symbols 9).x) tt;
  in_y = λ w x y z.
      ring (four w x y z) (left' (symbols 3).y) (right' (symbols 0).y (symbols 6).y (symbols 9).y) tt;
  in_z = λ w x y z.
      ring (four w x y z) (left' (symbols 3).z) (right' (symbols 0).z (symbols 6).z (symbols 9).z) tt;
}

-- ---- points
abbrev five : (a b c d p : Point) → List ℤ
five a b c d p = coordinates a (coordinates b (coordinates c (coordinates d (coordinates p []))))

-- four numbers, each times the orientation in which the fifth point stands in the place of one
abbrev weighted' : (a b c d : Polynomial) → Polynomial
weighted' a b c d =
    sum
    (sum (sum (product (orientation' P B C D) a) (product (orientation' A P C D) b)) (product (orientation' A B P D) c))
    (product (orientation' A B C P) d)

abbrev whole' : Polynomial
whole' = orientation' (symbols 0) (symbols 3) (symbols 6) (symbols 9)

pub orientation_is_sum : OrientationIsSum
unfolding orientation
orientation_is_sum a b c d p =
    ring (five a b c d p) whole'
    (sum (sum (sum (orientation' P B C D) (orientation' A P C D)) (orientation' A B P D)) (orientation' A B C P)) tt

pub point_is_sum : PointIsSum
unfolding orientation
point_is_sum = record {
  in_x = λ a b c d p.
      ring (five a b c d p) (product whole' (symbols 12).x)
      (weighted' (symbols 0).x (symbols 3).x (symbols 6).x (symbols 9).x) tt;
  in_y = λ a b c d p.
      ring (five a b c d p) (product whole' (symbols 12).y)
      (weighted' (symbols 0).y (symbols 3).y (symbols 6).y (symbols 9).y) tt;
  in_z = λ a b c d p.
      ring (five a b c d p) (product whole' (symbols 12).z)
      (weighted' (symbols 0).z (symbols 3).z (symbols 6).z (symbols 9).z) tt;
}

pub power_is_sum : PowerIsSum
unfolding orientation power
power_is_sum a b c d p =
    ring (five a b c d p) (power' A B C D P (square' A) (square' B) (square' C) (square' D) (square' P))
    (negation
    (sum
    (sum
    (sum (product (square' (step' P A)) (orientation' P B C D)) (product (square' (step' P B)) (orientation' A P C D)))
    (product (square' (step' P C)) (orientation' A B P D)))
    (product (square' (step' P D)) (orientation' A B C P)))) tt
