-- The planes of lifted tetrahedra over a place, beyond that the cell which has it is the highest.
--
--   ThreeLiftsLaw       how the planes over a place at two tetrahedra with a common facet are related
--   HasOtherBefore v t r q k
--                       vertex k of r is not a vertex of t, and q is strictly on the inner side of the facet of r
--                       opposite to that vertex
--   StrictEnvelopeLaw   if so and if q lies in r, the plane of t is below that of r at q
use Rattle.std.specs.Prelude.{◌≡◌, ℕ, ℤ, pos, ◌-ℤ◌, ◌*ℤ◌, ◌<ℤ◌}
use Rattle.geo_sign.specs.Boxes.{IsBoxed}
use Rattle.geo_sign.specs.Cells.{IsCell}
use Rattle.geo_sign.specs.Orientation.{orientation}
use Rattle.geo_sign.specs.Places.{IsLyingIn}
use Rattle.geo_sign.specs.Point.{Point}
use Rattle.geo_sign.specs.Power.{power}
use Rattle.geo_sign.specs.Rational.{RationalPoint, side}
use Rattle.geo_sign.specs.Sights.{side_of}
use Rattle.geo_sign.specs.Tetrahedron.{Tetrahedron, facet_of, vertex_of}
use Rattle.geo_sign.specs.Vertices.{Vertices, orientation_of}
use Rattle.geo_sign.specs.Writings.{IsVertexOf}
use Rattle.cell_laws.specs.Lifts.{lift, lift_of}

-- of any five points at any heights, over any place
abbrev pub ThreeLiftsLaw : Type 0
ThreeLiftsLaw =
    (a b c d e : Point) (q : RationalPoint) (ha hb hc hd he : ℤ)
    → orientation a b c d *ℤ lift a c b e ha hc hb he q
    ≡ orientation a c b e *ℤ lift a b c d ha hb hc hd q -ℤ power a b c d e ha hb hc hd he *ℤ side a b c q

-- vertex k of r is none of t's, and the place is not in the plane of the facet opposite to it
pub record HasOtherBefore (v : Vertices) (t r : Tetrahedron) (q : RationalPoint) (k : ℕ) : Type 0 where
  pub other : ¬ IsVertexOf t (vertex_of r k)
  pub before : pos 0 <ℤ side_of v (facet_of r k) q

-- the heights of two planes at q, each times the other cell's orientation, where q lies in r
abbrev pub StrictEnvelopeLaw : Type 0
StrictEnvelopeLaw =
    (v : Vertices) → IsBoxed v → (t r : Tetrahedron) (q : RationalPoint) (k : ℕ) → IsCell v t.a t.b t.c t.d
    → IsCell v r.a r.b r.c r.d → IsLyingIn v r q → HasOtherBefore v t r q k
    → (orientation_of v r.a r.b r.c r.d *ℤ lift_of v t q) <ℤ (orientation_of v t.a t.b t.c t.d *ℤ lift_of v r q)
