-- What does not depend on the vertex from which a directed facet is written, and what changes where it is turned.
--
--   SidesAreRotated       a rotated facet has the same side of each place
--   SidesAreTurned        a turned one has the opposite side
--   CrossingsAreRotated   a sight crosses a rotated facet where it crosses the facet
--   FacetsAreRotated      the facets of a tetrahedron reordered by an even permutation are its facets, rotated
use Rattle.std.specs.Prelude.{ℕ, ◌<◌, ◌≡◌, neg_ℤ}
use Rattle.geo_sign.specs.Rational.{RationalPoint}
use Rattle.geo_sign.specs.Tetrahedron.{Tetrahedron, DirectedFacet, facet_of, IsRotated, IsTurned}
use Rattle.geo_sign.specs.Vertices.{Vertices}
use Rattle.geo_sign.specs.Sights.{side_of, is_crossed}
use Rattle.geo_sign.specs.Writings.{IsRewritten}

-- the same side
abbrev pub SidesAreRotated : Type 0
SidesAreRotated = (v : Vertices) (f g : DirectedFacet) (q : RationalPoint) → IsRotated f g → side_of v g q ≡ side_of v f q

-- the opposite number
abbrev pub SidesAreTurned : Type 0
SidesAreTurned = (v : Vertices) (f g : DirectedFacet) (q : RationalPoint) → IsTurned f g → side_of v g q ≡ neg_ℤ (side_of v f q)

-- crossed together
abbrev pub CrossingsAreRotated : Type 0
CrossingsAreRotated =
    (v : Vertices) (p : ℕ) (s : RationalPoint) (f g : DirectedFacet) → IsRotated f g → is_crossed v p s g ≡ is_crossed v p s f

-- facet k of the one is some facet j of the other, rotated
abbrev pub FacetsAreRotated : Type 0
FacetsAreRotated = (t r : Tetrahedron) → IsRewritten t r → (k : ℕ) → (j : ℕ) × (j < 4) × IsRotated (facet_of t j) (facet_of r k)
