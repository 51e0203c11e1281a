-- The planes of lifted cells. Each vertex is lifted by its height; over a place the lifted vertices of a cell span a plane.
--
--   lift a b c d ha hb hc hd q    the height at q of the plane through four lifted points, times their orientation
--   lift_of v t q                 the height at q of the plane through the lifted vertices of t, times the orientation
--                                 of t and the divisor of q
--   is_higher v q r t             at q the plane of t is higher than that of r
use Rattle.std.specs.Prelude.{ℤ, ◌+ℤ◌, ◌*ℤ◌, int_lt, Bool}
use Rattle.geo_sign.specs.Point.{Point}
use Rattle.geo_sign.specs.Rational.{RationalPoint, side}
use Rattle.geo_sign.specs.Tetrahedron.{Tetrahedron}
use Rattle.geo_sign.specs.Vertices.{Vertices, orientation_of}

-- the height at q of the plane through four points lifted so, times their orientation and the number that q is over
unfoldable pub lift : (a b c d : Point) (ha hb hc hd : ℤ) → RationalPoint → ℤ
lift a b c d ha hb hc hd q = ha *ℤ side b d c q +ℤ hb *ℤ side a c d q +ℤ hc *ℤ side a d b q +ℤ hd *ℤ side a b c q

abbrev pub lift_of : Vertices → Tetrahedron → RationalPoint → ℤ
lift_of v t q = lift (v.at t.a) (v.at t.b) (v.at t.c) (v.at t.d) (v.high t.a) (v.high t.b) (v.high t.c) (v.high t.d) q

-- the two heights are compared without dividing by the orientations, which are positive
abbrev pub is_higher : Vertices → RationalPoint → Tetrahedron → Tetrahedron → Bool
is_higher v q r t =
    int_lt (orientation_of v t.a t.b t.c t.d *ℤ lift_of v r q) (orientation_of v r.a r.b r.c r.d *ℤ lift_of v t q)
