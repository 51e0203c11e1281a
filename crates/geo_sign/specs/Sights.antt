-- Lines of sight through the cells (Labatut, Pons and Keriven 2007). A sight goes from a vertex p to a place s, its
-- perturbed scanner.
--
--   side_of v f s              the side of the directed facet f on which s lies
--   is_crossed v p s f         the sight from s to the vertex p crosses the directed facet f: s is before f, p is
--                              behind it, and the line between them passes the three edges on their inner sides. If p
--                              is in the plane of a facet, the facet is not crossed
--   is_behind v p s t, is_towards v p s t
--                              the cell has the vertex, and at each of its facets there s is on the outer side; the
--                              same with the inner side
--   is_cell_of v s t           the scanner's cell: s is on the inner side of all four facets
use Rattle.std.specs.Prelude.{ℕ, ◌==◌, ◌&&◌, ◌||◌, Bool, ℤ, pos, int_lt}
use Rattle.geo_sign.specs.Rational.{RationalPoint, rational, side}
use Rattle.geo_sign.specs.Tetrahedron.{Tetrahedron, DirectedFacet, facet_of}
use Rattle.geo_sign.specs.Vertices.{Vertices}

-- On which side of the directed facet f the point s lies: positive on the side of the facet's own cell.
abbrev pub side_of : Vertices → DirectedFacet → RationalPoint → ℤ
side_of v f s = side (v.at f.a) (v.at f.b) (v.at f.c) s

-- Tests whether an integer is greater than 0. If it is a value of `side`, the point is then strictly on the side from
-- which the facet turns counterclockwise. This is the side of the cell that the facet belongs to (`DirectedFacet`).
abbrev pub is_positive : ℤ → Bool
is_positive z = int_lt (pos 0) z

-- Tests whether an integer is less than 0. If it is a value of `side`, the point is then strictly on the other side. If
-- it is 0, the point is in the plane of the facet.
abbrev pub is_negative : ℤ → Bool
is_negative z = int_lt z (pos 0)

-- Tests whether the line of sight crosses the directed facet. The scanner is on its positive side, the vertex p
-- strictly on the other, and the segment passes through the interior of the triangle. A facet that has p as a vertex is
-- not crossed.
unfoldable pub is_crossed : Vertices → (p : ℕ) → RationalPoint → DirectedFacet → Bool
is_crossed v p s f =
    is_positive (side_of v f s) && is_negative (side_of v f (rational (v.at p)))
    && is_positive (side (v.at p) (v.at f.a) (v.at f.b) s)
    && is_positive (side (v.at p) (v.at f.b) (v.at f.c) s)
    && is_positive (side (v.at p) (v.at f.c) (v.at f.a) s)

-- Tests whether all four facets of t pass a test.
abbrev pub all_facets : Tetrahedron → (DirectedFacet → Bool) → Bool
all_facets t test = test (facet_of t 0) && test (facet_of t 1) && test (facet_of t 2) && test (facet_of t 3)

-- Tests whether the three facets of t that have the vertex p pass a test. The facet opposite to p is skipped.
abbrev pub all_facets_at : ℕ → Tetrahedron → (DirectedFacet → Bool) → Bool
all_facets_at p t test =
    ((t.a == p) || test (facet_of t 0)) && ((t.b == p) || test (facet_of t 1)) && ((t.c == p) || test (facet_of t 2))
    && ((t.d == p) || test (facet_of t 3))

-- Tests whether p is a vertex of t.
abbrev pub has_vertex : Tetrahedron → ℕ → Bool
has_vertex t p = (t.a == p) || (t.b == p) || (t.c == p) || (t.d == p)

-- Tests whether t is the cell just after the vertex p as seen from the scanner. That is, t has the vertex p, and the
-- line of sight, prolonged beyond p, enters t: the scanner is on the outer side of each facet of t that has p.
unfoldable pub is_behind : Vertices → (p : ℕ) → RationalPoint → Tetrahedron → Bool
is_behind v p s t = has_vertex t p && all_facets_at p t (λ f. is_negative (side_of v f s))

-- the cell has the vertex, and the scanner is on the inner side of each of its facets there
unfoldable pub is_towards : Vertices → (p : ℕ) → RationalPoint → Tetrahedron → Bool
is_towards v p s t = has_vertex t p && all_facets_at p t (λ f. is_positive (side_of v f s))

-- Tests whether the point s is strictly inside t: on the inner side of all four facets.
unfoldable pub is_cell_of : Vertices → RationalPoint → Tetrahedron → Bool
is_cell_of v s t = all_facets t (λ f. is_positive (side_of v f s))
