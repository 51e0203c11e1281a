-- Points that occur in several rows, once each.
--
--   is_same_point a b            the two points are equal
--   distinct_points rows   the rows' points, once each, in the order of their first rows
--   index_among points p   the first index of a point in a list
use Rattle.std.specs.Prelude.{ℕ, ◌&&◌, not, Bool, List, [], ◌∷◌, filter}
use Rattle.std.specs.List.{position_or_len}
use Rattle.std.specs.Ordering.{int_eq}
use Rattle.geo_sign.specs.Point.{Point}

-- Tests whether two points have the same coordinates.
abbrev pub is_same_point : Point → Point → Bool
is_same_point a b = int_eq a.x b.x && int_eq a.y b.y && int_eq a.z b.z

-- The points without repetitions, in the order of their first occurrence.
abbrev pub distinct_points : List Point → List Point
distinct_points [] = []
distinct_points (p ∷ rest) = p ∷ filter (λ q. not (is_same_point p q)) (distinct_points rest)

-- The index of the first point in a list that equals a given one, or the list's length if there is none.
abbrev pub index_among : List Point → Point → ℕ
index_among points p = position_or_len (is_same_point p) points
