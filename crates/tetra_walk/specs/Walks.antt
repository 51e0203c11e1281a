-- Sides of cells, as walks see them.
--
--   IsBehindSide v t k q     the position q is behind facet k of t
use Rattle.std.specs.Prelude.{ℕ, ◌<ℤ◌, pos}
use Rattle.geo_sign.specs.Rational.{RationalPoint}
use Rattle.geo_sign.specs.Tetrahedron.{Tetrahedron, facet_of}
use Rattle.geo_sign.specs.Vertices.{Vertices}
use Rattle.geo_sign.specs.Sights.{side_of}

-- the position is strictly on the outer side of the facet opposite to vertex k
abbrev pub IsBehindSide : Vertices → Tetrahedron → ℕ → RationalPoint → Type 0
IsBehindSide v t k q = side_of v (facet_of t k) q <ℤ pos 0
