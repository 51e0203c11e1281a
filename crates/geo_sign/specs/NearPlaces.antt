-- Places as near to a vertex as is wanted, on the way to a scanner or away from it. Each is an ordinary place of the box, so
-- that a walk to it is a walk to a place.
--
--   mix i p j s             i times p and j times s
--   near t p s              the place between p and s at which p weighs t times as much
--   reversed q              q turned round: its side of each facet is the opposite
--   weight                  the factor t for `near t p s`, the place between p and s at which p counts t times as much
--                           as s: 2^270. It is so large that this place is on the same side of each facet as p, unless
--                           p is in the plane of the facet; then s decides
--   towards_place p s, behind_place p s
--                           places as near to the point p as is wanted: on the way to the scanner at s; on the other
--                           side, away from it
use Rattle.std.specs.Prelude.{ℕ, ℤ, pos, neg_ℤ, ◌^◌, ◌+ℤ◌, ◌*ℤ◌}
use Rattle.geo_sign.specs.Point.{Point, point}
use Rattle.geo_sign.specs.Rational.{RationalPoint, displaced}

-- the place at i times p and j times s, over the sum of the weights
abbrev pub mix : ℤ → Point → ℤ → RationalPoint → RationalPoint
mix i p j s =
    record {
      at = point (i *ℤ p.x +ℤ j *ℤ s.at.x) (i *ℤ p.y +ℤ j *ℤ s.at.y) (i *ℤ p.z +ℤ j *ℤ s.at.z);
      over = i +ℤ j *ℤ s.over;
    }

-- near p, on the way to s
abbrev pub near : ℕ → Point → RationalPoint → RationalPoint
near t p s = mix (pos t) p (pos 1) s

-- over the opposite number, so that each side changes its sign
abbrev pub reversed : RationalPoint → RationalPoint
reversed q = record { at = point (neg_ℤ q.at.x) (neg_ℤ q.at.y) (neg_ℤ q.at.z); over = neg_ℤ q.over }

-- above the side of any perturbed scanner
abbrev pub weight : ℕ
weight = 2 ^ 270

abbrev pub towards_place : (p s : Point) → RationalPoint
towards_place p s = near weight p (displaced s)

abbrev pub behind_place : (p s : Point) → RationalPoint
behind_place p s = near weight p (reversed (displaced s))
