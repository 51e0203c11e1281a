-- Where a sight enters a cell and where it leaves it.
--
--   IsEntered v p s t k                       the sight entered t through side k, since it crosses the facet of that
--                                             side; or k is 4, and t is the cell at p towards s
--   IsExit v p s t k                          the sight leaves t through side k, on the way to s: it crosses the facet
--                                             of that side in the other direction
--   left_behind first second third            the index of the vertex that stays behind, by three tests: 0 if the first
--                                             and third hold or the first and second fail, 1 if the first holds and the
--                                             third fails, 2 if the first fails and the second holds
--   left_by first second third                `left_behind` of the tests whether three numbers are positive
--   past v p s d x                            a number with the sign of the side of the facet p, x, d on which s is:
--                                             positive on the inner side, 0 in the plane
--   left_among v p s d numbers                of the three vertices of a front, the index of the one that stays behind:
--                                             `left_by` of their numbers `past`, d being the fourth vertex
use Rattle.std.specs.Prelude.{ℕ, ◌<◌, ◌≡◌, ◌⊎◌, Bool, true, false, ℤ, List, slice_index}
use Rattle.std.specs.Int.{is_positive}
use Rattle.geo_sign.specs.Rational.{RationalPoint, side}
use Rattle.geo_sign.specs.Sights.{is_crossed, is_towards}
use Rattle.geo_sign.specs.Tetrahedron.{Tetrahedron, facet_of, turned}
use Rattle.geo_sign.specs.Vertices.{Vertices}

-- s is before the entered facet and p behind it; 4 is no side
abbrev pub IsEntered : Vertices → (p : ℕ) → RationalPoint → Tetrahedron → ℕ → Type 0
IsEntered v p s t k = ((k < 4) × (is_crossed v p s (facet_of t k) ≡ true)) ⊎ ((k ≡ 4) × (is_towards v p s t ≡ true))

-- the opposite facet is crossed: p is before it and s behind
pub record IsExit (v : Vertices) (p : ℕ) (s : RationalPoint) (t : Tetrahedron) (k : ℕ) : Type 0 where
  pub side_in : k < 4
  pub left : is_crossed v p s (turned (facet_of t k)) ≡ true

-- which vertex of the entry facet stays behind, by the tests of the planes through the three
abbrev pub left_behind : (first second third : Bool) → ℕ
left_behind true second true = 0
left_behind true second false = 1
left_behind false true third = 2
left_behind false false third = 0

abbrev pub left_by : (first second third : ℤ) → ℕ
left_by first second third = left_behind (is_positive first) (is_positive second) (is_positive third)

-- positive if s is on the inner side
abbrev pub past : Vertices → (p : ℕ) → RationalPoint → (d x : ℕ) → ℤ
past v p s d x = side (v.at p) (v.at x) (v.at d) s

-- of three vertices by number, those of the entry facet
abbrev pub left_among : Vertices → (p : ℕ) → RationalPoint → (d : ℕ) → List ℕ → ℕ
left_among v p s d numbers =
    left_by (past v p s d (slice_index numbers 0)) (past v p s d (slice_index numbers 1)) (past v p s d (slice_index numbers 2))
