-- Theorems on the cells over the vertices that are in.
--
--   ThreeTermsLaw     how the powers of one more vertex at two tetrahedra with a common facet are related
--   GenericLaw        the power is zero at a tetrahedron's own vertices alone
--   EnvelopeLaw       over a place no cell's plane is higher than that of the cell that contains the place
--   HasOneAcross      exactly one vertex makes an adjacent cell at a facet
--   AcrossLaw         each facet of a cell is on a wall, or has exactly one adjacent cell
--   HaveOneFacet      if two cells have a directed facet in common, they have the same four vertices. A cell has a
--                     directed facet at one side only
--   FacetLaw          at most one cell has a given directed facet, at one side
--   PlaceLaw          each place of the box lies in a cell
--   OneLaw            a place strictly inside a cell lies in no other
use Rattle.std.specs.Prelude.{ℕ, ◌<◌, ◌≡◌, ◌⊎◌, ℤ, pos, ◌+ℤ◌, ◌*ℤ◌, ◌<ℤ◌, ◌≤ℤ◌}
use Rattle.geo_sign.specs.Point.{Point}
use Rattle.geo_sign.specs.Orientation.{orientation}
use Rattle.geo_sign.specs.Power.{power}
use Rattle.geo_sign.specs.Rational.{RationalPoint}
use Rattle.geo_sign.specs.Tetrahedron.{Tetrahedron, tetrahedron, facet, facet_of, IsRotated}
use Rattle.geo_sign.specs.Vertices.{Vertices, orientation_of, power_of, IsWall}
use Rattle.geo_sign.specs.Cells.{IsCell}
use Rattle.geo_sign.specs.Writings.{IsRewritten, IsVertexOf}
use Rattle.geo_sign.specs.Boxes.{IsBoxed}
use Rattle.geo_sign.specs.Places.{IsInBox, IsLyingIn, IsStrictlyIn}
use Rattle.cell_laws.specs.Lifts.{lift_of}

-- of any five points at any heights
abbrev pub ThreeTermsLaw : Type 0
ThreeTermsLaw =
    (a b c d e p : Point) (ha hb hc hd he hp : ℤ) →
    orientation a b c d *ℤ power a c b e p ha hc hb he hp ≡
    orientation a c b e *ℤ power a b c d p ha hb hc hd hp +ℤ power a b c d e ha hb hc hd he *ℤ orientation a b c p

-- five vertices below the count, whether they are in or not
abbrev pub GenericLaw : Type 0
GenericLaw =
    (v : Vertices) → IsBoxed v → (a b c d u : ℕ) → a < v.count → b < v.count → c < v.count → d < v.count → u < v.count →
    pos 0 <ℤ orientation_of v a b c d → power_of v a b c d u ≡ pos 0 → IsVertexOf (tetrahedron a b c d) u

-- the heights of two planes at q, each times the other cell's orientation; this needs nothing of the vertices
abbrev pub EnvelopeLaw : Type 0
EnvelopeLaw =
    (v : Vertices) (t r : Tetrahedron) (q : RationalPoint) → IsCell v t.a t.b t.c t.d → IsCell v r.a r.b r.c r.d →
    IsLyingIn v r q → (orientation_of v r.a r.b r.c r.d *ℤ lift_of v t q) ≤ℤ (orientation_of v t.a t.b t.c t.d *ℤ lift_of v r q)

-- exactly one vertex makes an adjacent cell at the facet
pub record HasOneAcross (v : Vertices) (a b c : ℕ) : Type 0 where
  pub vertex : ℕ
  pub cell : IsCell v a c b vertex
  pub one : (e : ℕ) → IsCell v a c b e → e ≡ vertex

abbrev pub AcrossLaw : Type 0
AcrossLaw =
    (v : Vertices) → IsBoxed v → (a b c d : ℕ) → IsCell v a b c d →
    (IsWall v (facet a b c) × ((e : ℕ) → ¬ IsCell v a c b e)) ⊎ ((¬ IsWall v (facet a b c)) × HasOneAcross v a b c)

-- two cells with a directed facet in common are one, and no two sides of a cell are one facet
pub record HaveOneFacet (v : Vertices) (t r : Tetrahedron) : Type 0 where
  pub cell : (j k : ℕ) → j < 4 → k < 4 → IsRotated (facet_of t j) (facet_of r k) → IsRewritten t r
  pub side : (j k : ℕ) → j < 4 → k < 4 → IsRotated (facet_of t j) (facet_of t k) → j ≡ k

abbrev pub FacetLaw : Type 0
FacetLaw =
    (v : Vertices) → IsBoxed v → (t r : Tetrahedron) → IsCell v t.a t.b t.c t.d → IsCell v r.a r.b r.c r.d → HaveOneFacet v t r

abbrev pub PlaceLaw : Type 0
PlaceLaw =
    (v : Vertices) → IsBoxed v → (q : RationalPoint) → IsInBox q →
    (t : Tetrahedron) × IsCell v t.a t.b t.c t.d × IsLyingIn v t q

-- it lies in t, and strictly in r
abbrev pub OneLaw : Type 0
OneLaw =
    (v : Vertices) → IsBoxed v → (t r : Tetrahedron) (q : RationalPoint) → IsCell v t.a t.b t.c t.d → IsCell v r.a r.b r.c r.d →
    IsLyingIn v t q → IsStrictlyIn v r q → IsRewritten t r
