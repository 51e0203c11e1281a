-- Keys of points along a space-filling curve: the Morton order, which interleaves the bits of the three coordinates.
--
--   interleave n x y z     the lowest n bits of three numbers, interleaved: bit j of x has the value 2 ^ (3 j + 2), of y 2 ^ (3
--                          j + 1), of z 2 ^ (3 j)
--   curve_key p            the key of a data point, each coordinate counted from -DATA_LIMIT
--   key_in points i        the key of point i of a list
use Rattle.std.specs.Prelude.{ℕ, zero, suc, ◌+◌, ◌*◌, ◌/◌, ◌%◌, pos, ◌+ℤ◌, unsigned_abs, List, get_or}
use Rattle.geo_sign.specs.Point.{Point, origin}
use Rattle.geo_sign.specs.declared.point.TheConstants.{DATA_LIMIT}

-- bit by bit, from the lowest
unfoldable pub interleave : (n x y z : ℕ) → ℕ
interleave zero x y z = 0
interleave (suc n) x y z = interleave n (x / 2) (y / 2) (z / 2) * 8 + (x % 2 * 4 + y % 2 * 2 + z % 2)

-- 22 bits of each coordinate
abbrev pub curve_key : Point → ℕ
curve_key p =
    interleave 22 (unsigned_abs (p.x +ℤ pos DATA_LIMIT)) (unsigned_abs (p.y +ℤ pos DATA_LIMIT))
    (unsigned_abs (p.z +ℤ pos DATA_LIMIT))

-- the key of a point of a list by its number
abbrev pub key_in : List Point → ℕ → ℕ
key_in points i = curve_key (get_or points i origin)
