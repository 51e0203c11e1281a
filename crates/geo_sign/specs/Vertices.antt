-- Vertices by number, and the walls of the box.
--
--   Vertices                    where each vertex is, its height, how many there are, which of them are in
--   Has vertices u              u is one of them and is in
--   orientation_of, power_of    orientation and power of vertices by their numbers
--   AreOnWall at f              three corners that agree in one coordinate
--   IsWall v f                  the facet is on a wall: three corners that agree in one coordinate
--   boxed_vertices points       corners 0 to 7 of the box, and then the points. All are inserted, at the heights of the
--                               symbolic perturbation
use Rattle.std.specs.Prelude.{ℕ, ◌<◌, ◌≡◌, ◌⊎◌, ◌+◌, Bool, true, ℤ, List, [], ◌∷◌, ◌++◌, length, get_or}
use Rattle.geo_sign.specs.declared.point.TheConstants.{CORNERS}
use Rattle.geo_sign.specs.Point.{Point, origin, corner_point}
use Rattle.geo_sign.specs.Orientation.{orientation}
use Rattle.geo_sign.specs.Power.{power}
use Rattle.geo_sign.specs.Tetrahedron.{DirectedFacet}
use Rattle.geo_sign.specs.Tie.{height}

-- A numbered set of vertices: the position and the height of each, their count, and which are in the
-- tetrahedralization.
pub record Vertices : Type 0 where
  pub at : ℕ → Point
  pub high : ℕ → ℤ
  pub count : ℕ
  pub is_in : ℕ → Bool

-- Vertex u exists and is in the tetrahedralization.
abbrev pub Has : Vertices → ℕ → Type 0
Has vertices u = (u < vertices.count) × (vertices.is_in u ≡ true)

-- The orientation of four vertices, given by their numbers.
abbrev pub orientation_of : Vertices → (a b c d : ℕ) → ℤ
orientation_of v a b c d = orientation (v.at a) (v.at b) (v.at c) (v.at d)

-- The perturbed in-sphere determinant of vertex p and four vertices, given by their numbers.
abbrev pub power_of : Vertices → (a b c d p : ℕ) → ℤ
power_of v a b c d p = power (v.at a) (v.at b) (v.at c) (v.at d) (v.at p) (v.high a) (v.high b) (v.high c) (v.high d) (v.high p)

-- three points agree in one coordinate
abbrev pub HaveCoordinate : (p q r : Point) → Type 0
HaveCoordinate p q r = ((p.x ≡ q.x) × (p.x ≡ r.x)) ⊎ (((p.y ≡ q.y) × (p.y ≡ r.y)) ⊎ ((p.z ≡ q.z) × (p.z ≡ r.z)))

-- three corners of the box that agree in one coordinate
pub record AreOnWall (at : ℕ → Point) (f : DirectedFacet) : Type 0 where
  pub first : f.a < CORNERS
  pub second : f.b < CORNERS
  pub third : f.c < CORNERS
  pub agree : HaveCoordinate (at f.a) (at f.b) (at f.c)

-- It looks at nothing but where the vertices are, so it is the same with a vertex more.
abbrev pub IsWall : Vertices → DirectedFacet → Type 0
IsWall v f = AreOnWall v.at f

-- The eight corners of the box, in order.
abbrev pub corners : List Point
corners =
    corner_point 0 ∷ corner_point 1 ∷ corner_point 2 ∷ corner_point 3 ∷ corner_point 4 ∷ corner_point 5 ∷ corner_point 6
    ∷ corner_point 7 ∷ []

-- The position of vertex u: corners 0 to 7 first, then the scanned points.
abbrev pub point_of : List Point → ℕ → Point
point_of points u = get_or (corners ++ points) u origin

-- The vertices of a scan: the box's corners and the scan's points, each with its height in the perturbation. All of
-- them are in the tetrahedralization.
abbrev pub boxed_vertices : List Point → Vertices
boxed_vertices points =
    record {
      at = point_of points;
      high = λ u. height (CORNERS + length points) u (point_of points u);
      count = CORNERS + length points;
      is_in = λ _. true;
    }
