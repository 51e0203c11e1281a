-- How large the numbers are that signs are of, at points of the box, and where the walls and the data points are.
--
--   NormalsAreSmall    no component of a facet's normal is over 2 ^ 49
--   PowersAreSmall     the plain power is at most 72 * 2 ^ 120
use Rattle.std.specs.Prelude.{◌≤◌, ◌*◌, ◌^◌, unsigned_abs}
use Rattle.geo_sign.specs.Point.{Point, IsWithin, step, cross}
use Rattle.geo_sign.specs.Power.{plain_power}
use Rattle.geo_sign.specs.declared.point.TheConstants.{BOX_LIMIT}

-- the normal of three points of the box
abbrev pub NormalsAreSmall : Type 0
NormalsAreSmall =
    (a b c : Point) → IsWithin BOX_LIMIT a → IsWithin BOX_LIMIT b → IsWithin BOX_LIMIT c
    → IsWithin (2 ^ 49) (cross (step a b) (step a c))

-- of five points of the box
abbrev pub PowersAreSmall : Type 0
PowersAreSmall =
    (a b c d p : Point) → IsWithin BOX_LIMIT a → IsWithin BOX_LIMIT b → IsWithin BOX_LIMIT c → IsWithin BOX_LIMIT d
    → IsWithin BOX_LIMIT p → unsigned_abs (plain_power a b c d p) ≤ 72 * 2 ^ 120
