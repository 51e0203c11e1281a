-- The side through which a line of sight came into a cell, by what the cell looks like from the scanner.
--
--   IsRayIn s r               a line of sight to the scanner. Its vertex is an inserted data point of the store, at the
--                             stated position
--   IsCrossing q a b c p      the line of sight from q to the point p crosses the facet a b c: q is before it, p is
--                             behind it, and the line passes its three edges on their inner sides
--   AreKnown s v              each of the four numbers in v is that of a vertex of the store
--   IsTurn u                  the facets of three sides follow each other around a vertex
--   IsAhead v q t k           the scanner is strictly on the inner side of the facet of side k of t
--   AreAhead v q t ahead      for each of the four sides of t, its entry in the list is true exactly if the scanner is
--                             strictly on the inner side of its facet
--   IsBeforePlane v q w p     the scanner is strictly on the inner side of the facet of the vertex p and the two points
--                             of the plane w
--   AllEnter v q t test k     each line of sight that passes t, and whose vertex passes the test, came into t through
--                             side k (or, if k is 4, begins there: t is the cell at its vertex)
--   IsPair v s t w            each line of sight that passes t came in through the first of two sides if
--                             `IsBeforePlane` holds for its vertex and a plane, and else through the second
--   IsTriple v s t w          t has three sides and a vertex between them. The line of sight of this vertex begins in
--                             t, and each other one that passes t came in through the side of the three that three
--                             planes determine
--   AreWays v s t ways        how the lines of sight to a scanner came into a cell: each through the side that the
--                             planes say
use Rattle.std.specs.Prelude.{ℕ, ◌≡◌, ◌≢◌, ◌<◌, ◌≤◌, ◌⊎◌, ◌↔◌, ◌<ℤ◌, pos, Bool, false, List, IsTrue, length, get_or, slice_index}
use Rattle.std.specs.Prelude.{slice_index_or}
use Rattle.geo_sign.specs.declared.point.TheConstants.{CORNERS}
use Rattle.geo_sign.specs.Point.{Point, origin}
use Rattle.geo_sign.specs.Rational.{RationalPoint, side, rational, displaced}
use Rattle.geo_sign.specs.Sights.{side_of}
use Rattle.geo_sign.specs.Tetrahedron.{Tetrahedron, facet, facet_of, vertex_of, IsRotated}
use Rattle.geo_sign.specs.Vertices.{Vertices, Has}
use Rattle.cell_laws.specs.Paths.{IsOnSight}
use Rattle.tetra_store.specs.Store.{Store, vertices_of}
use Rattle.sight.specs.Exits.{IsEntered}
use Rattle.beam.specs.declared.plane.Plane.{Plane}
use Rattle.beam.specs.declared.ways.Ray.{Ray}
use Rattle.beam.specs.declared.ways.Turn.{Turn}
use Rattle.beam.specs.declared.ways.Pair.{Pair}
use Rattle.beam.specs.declared.ways.Triple.{Triple}
use Rattle.beam.specs.declared.ways.Ways.{Ways}
use Rattle.beam.specs.declared.ways.Ways.TheVariants.{Any, One, Two, Three}
use Rattle.beam.specs.Planes.{IsPlane}

-- from the position of an inserted data point
pub record IsRayIn (s : Store) (r : Ray) : Type 0 where
  pub inserted : Has (vertices_of s) r.vertex
  pub data_vertex : CORNERS ≤ r.vertex
  pub point : r.point ≡ get_or s.points r.vertex origin

-- it is crossed, by the definition of that, in positions
pub record IsCrossing (q : RationalPoint) (a b c p : Point) : Type 0 where
  pub ahead : pos 0 <ℤ side a b c q
  pub behind : side a b c (rational p) <ℤ pos 0
  pub ab : pos 0 <ℤ side p a b q
  pub bc : pos 0 <ℤ side p b c q
  pub ca : pos 0 <ℤ side p c a q

-- each is the number of a vertex
abbrev pub AreKnown : Store → List ℕ → Type 0
AreKnown s v = (k : ℕ) → k < 4 → slice_index v k < length s.points

-- in each tetrahedron the facets of the three sides go on from the vertex in turn; there is no other side but that of the vertex
pub record IsTurn (u : Turn) : Type 0 where
  pub around_in : u.around < 4
  pub first_in : u.first < 4
  pub second_in : u.second < 4
  pub third_in : u.third < 4
  pub first : (t : Tetrahedron)
      → IsRotated (facet_of t u.first) (facet (vertex_of t u.around) (vertex_of t u.second) (vertex_of t u.third))
  pub second : (t : Tetrahedron)
      → IsRotated (facet_of t u.second) (facet (vertex_of t u.around) (vertex_of t u.third) (vertex_of t u.first))
  pub third : (t : Tetrahedron)
      → IsRotated (facet_of t u.third) (facet (vertex_of t u.around) (vertex_of t u.first) (vertex_of t u.second))
  pub all : (k : ℕ) → k < 4 → (k ≡ u.around) ⊎ ((k ≡ u.first) ⊎ ((k ≡ u.second) ⊎ (k ≡ u.third)))

-- strictly on the inner side
abbrev pub IsAhead : Vertices → RationalPoint → Tetrahedron → ℕ → Type 0
IsAhead v q t k = pos 0 <ℤ side_of v (facet_of t k) q

-- by the numbers of sides
abbrev pub AreAhead : Vertices → RationalPoint → Tetrahedron → List Bool → Type 0
AreAhead v q t ahead = (k : ℕ) → k < 4 → IsTrue (slice_index_or ahead k false) ↔ IsAhead v q t k

-- strictly on the inner side of that facet
abbrev pub IsBeforePlane : Vertices → RationalPoint → Plane → (p : ℕ) → Type 0
IsBeforePlane v q w p = pos 0 <ℤ side (v.at p) w.b w.c q

-- 4 is no side: the cell is the one at the vertex of the line of sight
abbrev pub AllEnter : Vertices → RationalPoint → Tetrahedron → (ℕ → Type 0) → ℕ → Type 0
AllEnter v q t test k = (p : ℕ) → IsOnSight v p q t → test p → IsEntered v p q t k

-- through one side if their points are before the plane, and else through the other
pub record IsPair (v : Vertices) (s : Point) (t : Tetrahedron) (w : Pair) : Type 0 where
  pub plane : IsPlane w.plane × (w.plane.scanner ≡ s)
  pub before : AllEnter v (displaced s) t (λ p. IsBeforePlane v (displaced s) w.plane p) w.before
  pub behind : AllEnter v (displaced s) t (λ p. ¬ IsBeforePlane v (displaced s) w.plane p) w.behind

-- that of the vertex between the three sides begins in the cell; the planes part the others
pub record IsTriple (v : Vertices) (s : Point) (t : Tetrahedron) (w : Triple) : Type 0 where
  pub planes : (IsPlane w.first × IsPlane w.second × IsPlane w.third)
      × ((w.first.scanner ≡ s) × (w.second.scanner ≡ s) × (w.third.scanner ≡ s))
  pub begins : AllEnter v (displaced s) t (λ p. p ≡ w.vertex) 4
  pub first : AllEnter v (displaced s) t
      (λ p. (p ≢ w.vertex) × IsBeforePlane v (displaced s) w.first p × IsBeforePlane v (displaced s) w.second p) w.turn.first
  pub third : AllEnter v (displaced s) t
      (λ p. (p ≢ w.vertex) × IsBeforePlane v (displaced s) w.first p × (¬ IsBeforePlane v (displaced s) w.second p)) w.turn.third
  pub second : AllEnter v (displaced s) t
      (λ p. (p ≢ w.vertex) × (¬ IsBeforePlane v (displaced s) w.first p) × IsBeforePlane v (displaced s) w.third p) w.turn.second
  pub first_too : AllEnter v (displaced s) t
      (λ p. (p ≢ w.vertex) × (¬ IsBeforePlane v (displaced s) w.first p) × (¬ IsBeforePlane v (displaced s) w.third p)) w.turn.first

-- nothing is said if they may have come in through any side
abbrev pub AreWays : Vertices → Point → Tetrahedron → Ways → Type 0
AreWays v s t Any = Unit {0}
AreWays v s t (One k) = AllEnter v (displaced s) t (λ _. Unit {0}) k
AreWays v s t (Two w) = IsPair v s t w
AreWays v s t (Three w) = IsTriple v s t w
