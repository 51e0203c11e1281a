-- The sides of places of a cell's facets, by the index of the facet.
--
--   inward v t k q    how far q is on the inner side of facet k of t
--   HasVertex f n     n is a vertex of the facet
--
-- Stands on: the definitions alone.
use Rattle.std.proofs.Common.{ℕ, zero, suc, ◌≡◌, ap, ◌∙◌, inl, inr, ℤ, pos, []}
use Rattle.geo_sign.specs.Edges.{HasVertex}
use Rattle.geo_sign.specs.Polynomial.{constant}
use Rattle.geo_sign.proofs.Ring.{ring}
use Rattle.geo_sign.specs.Orientation.{orientation}
use Rattle.geo_sign.specs.Point.{Point}
use Rattle.geo_sign.specs.Rational.{rational, RationalPoint, side}
use Rattle.geo_sign.proofs.Written.{coordinates, orientation', side', symbols}
use Rattle.geo_sign.specs.Sights.{side_of}
use Rattle.geo_sign.specs.Tetrahedron.{DirectedFacet, facet_of, Tetrahedron, vertex_of}
use Rattle.geo_sign.specs.Vertices.{Vertices}
use Rattle.geo_sign.proofs.Rewritings.{orientation_at}

abbrev pub inward : Vertices → Tetrahedron → ℕ → RationalPoint → ℤ
inward v cell k q = side_of v (facet_of cell k) q

-- ---- a cell's own vertices lie in it
at_first : (a b c : Point) → side a b c (rational a) ≡ pos 0
unfolding side
at_first a b c =
    ring (coordinates a (coordinates b (coordinates c [])))
    (side' (symbols 0) (symbols 3) (symbols 6) (record { at = symbols 0; over = constant (pos 1) })) (constant (pos 0)) tt

at_second : (a b c : Point) → side a b c (rational b) ≡ pos 0
unfolding side
at_second a b c =
    ring (coordinates a (coordinates b (coordinates c [])))
    (side' (symbols 0) (symbols 3) (symbols 6) (record { at = symbols 3; over = constant (pos 1) })) (constant (pos 0)) tt

at_third : (a b c : Point) → side a b c (rational c) ≡ pos 0
unfolding side
at_third a b c =
    ring (coordinates a (coordinates b (coordinates c [])))
    (side' (symbols 0) (symbols 3) (symbols 6) (record { at = symbols 6; over = constant (pos 1) })) (constant (pos 0)) tt

-- the opposite vertex is at the cell's volume
pub opposite :
    (v : Vertices) (cell : Tetrahedron) (k : ℕ) → inward v cell k (rational (v.at (vertex_of cell k))) ≡ orientation_at v cell
unfolding side orientation
opposite v cell zero =
    ring (coordinates (v.at cell.a) (coordinates (v.at cell.b) (coordinates (v.at cell.c) (coordinates (v.at cell.d) []))))
    (side' (symbols 3) (symbols 9) (symbols 6) (record { at = symbols 0; over = constant (pos 1) }))
    (orientation' (symbols 0) (symbols 3) (symbols 6) (symbols 9)) tt
opposite v cell (suc zero) =
    ring (coordinates (v.at cell.a) (coordinates (v.at cell.b) (coordinates (v.at cell.c) (coordinates (v.at cell.d) []))))
    (side' (symbols 0) (symbols 6) (symbols 9) (record { at = symbols 3; over = constant (pos 1) }))
    (orientation' (symbols 0) (symbols 3) (symbols 6) (symbols 9)) tt
opposite v cell (suc (suc zero)) =
    ring (coordinates (v.at cell.a) (coordinates (v.at cell.b) (coordinates (v.at cell.c) (coordinates (v.at cell.d) []))))
    (side' (symbols 0) (symbols 9) (symbols 3) (record { at = symbols 6; over = constant (pos 1) }))
    (orientation' (symbols 0) (symbols 3) (symbols 6) (symbols 9)) tt
opposite v cell (suc (suc (suc k))) =
    ring (coordinates (v.at cell.a) (coordinates (v.at cell.b) (coordinates (v.at cell.c) (coordinates (v.at cell.d) []))))
    (side' (symbols 0) (symbols 3) (symbols 6) (record { at = symbols 9; over = constant (pos 1) }))
    (orientation' (symbols 0) (symbols 3) (symbols 6) (symbols 9)) tt

pub on_facet : (v : Vertices) (f : DirectedFacet) (n : ℕ) → HasVertex f n → side_of v f (rational (v.at n)) ≡ pos 0
on_facet v f n (inl e) = ap (λ m. side_of v f (rational (v.at m))) e ∙ at_first (v.at f.a) (v.at f.b) (v.at f.c)
on_facet v f n (inr (inl e)) = ap (λ m. side_of v f (rational (v.at m))) e ∙ at_second (v.at f.a) (v.at f.b) (v.at f.c)
on_facet v f n (inr (inr e)) = ap (λ m. side_of v f (rational (v.at m))) e ∙ at_third (v.at f.a) (v.at f.b) (v.at f.c)
