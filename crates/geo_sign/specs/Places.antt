-- Places: points with rational coordinates, in the box and in cells. A perturbed scanner is one.
--
--   IsInBox q                the divisor of q is positive, and no coordinate passes a wall of the box
--   IsLyingIn v t q          the place q is on the outer side of no facet of t: it is in t or on a facet of t
--   IsStrictlyIn v t q       the place q is on the inner side of each facet of t
--   IsNearer v p s f g       the sight from s to the vertex p crosses the facets f and g, and f nearer to p
use Rattle.std.specs.Prelude.{ℕ, ◌≤◌, ◌*◌, ◌<ℤ◌, ◌≤ℤ◌, ◌*ℤ◌, unsigned_abs, pos, neg_ℤ}
use Rattle.geo_sign.specs.declared.point.TheConstants.{BOX_LIMIT}
use Rattle.geo_sign.specs.Rational.{RationalPoint, rational}
use Rattle.geo_sign.specs.Tetrahedron.{Tetrahedron, DirectedFacet, facet_of}
use Rattle.geo_sign.specs.Vertices.{Vertices}
use Rattle.geo_sign.specs.Sights.{side_of}

-- over a positive number, and no coordinate passes a wall
pub record IsInBox (q : RationalPoint) : Type 0 where
  pub over_positive : pos 0 <ℤ q.over
  pub x_within : unsigned_abs q.at.x ≤ BOX_LIMIT * unsigned_abs q.over
  pub y_within : unsigned_abs q.at.y ≤ BOX_LIMIT * unsigned_abs q.over
  pub z_within : unsigned_abs q.at.z ≤ BOX_LIMIT * unsigned_abs q.over

-- the place lies in the tetrahedron, its facets included
pub record IsLyingIn (v : Vertices) (t : Tetrahedron) (q : RationalPoint) : Type 0 where
  pub at : (k : ℕ) → pos 0 ≤ℤ side_of v (facet_of t k) q

-- and on none of its facets
pub record IsStrictlyIn (v : Vertices) (t : Tetrahedron) (q : RationalPoint) : Type 0 where
  pub at : (k : ℕ) → pos 0 <ℤ side_of v (facet_of t k) q

-- the parts of the way are compared without dividing; p is behind both facets and s before both
abbrev pub IsNearer : Vertices → (p : ℕ) → RationalPoint → (f g : DirectedFacet) → Type 0
IsNearer v p s f g =
    (neg_ℤ (side_of v f (rational (v.at p))) *ℤ side_of v g s) <ℤ (neg_ℤ (side_of v g (rational (v.at p))) *ℤ side_of v f s)
