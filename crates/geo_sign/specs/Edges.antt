-- The vertices and directed edges of a directed facet, and the tetrahedron over it.
--
--   HasVertex f u                   u is one of the facet's vertices
--   edge_start f i, edge_end f i    the directed edge of f opposite to its vertex i
--   over f p                        the tetrahedron over f with apex p
--   one_if b                        what one thing with this answer adds to a count
--   edges_of u w f                  how many of the three directed edges of f go from u to w
--   edge_count u w facets           how many of those of a list of facets
use Rattle.std.specs.Prelude.{ℕ, zero, suc, ◌≡◌, ◌⊎◌, ◌+◌, ◌==◌, ◌&&◌, Bool, true, false, List}
use Rattle.std.specs.List.{sum_by}
use Rattle.geo_sign.specs.Tetrahedron.{Tetrahedron, tetrahedron, DirectedFacet}

-- u is one of the three vertices
abbrev pub HasVertex : DirectedFacet → ℕ → Type 0
HasVertex f u = (u ≡ f.a) ⊎ ((u ≡ f.b) ⊎ (u ≡ f.c))

-- where the directed edge opposite to vertex i begins; any number above 2 is read as 2
abbrev pub edge_start : DirectedFacet → ℕ → ℕ
edge_start f zero = f.b
edge_start f (suc zero) = f.c
edge_start f (suc (suc i)) = f.a

-- where it ends
abbrev pub edge_end : DirectedFacet → ℕ → ℕ
edge_end f zero = f.c
edge_end f (suc zero) = f.a
edge_end f (suc (suc i)) = f.b

-- at its facet i it has what is over the reverse of the edge i, if i < 3
abbrev pub over : DirectedFacet → ℕ → Tetrahedron
over f p = tetrahedron f.a f.b f.c p

-- what one thing with this answer adds to a count
abbrev pub one_if : Bool → ℕ
one_if true = 1
one_if false = 0

-- 1 where the edge from x to y goes from u to w, else 0
abbrev pub one_edge : (u w x y : ℕ) → ℕ
one_edge u w x y = one_if ((x == u) && (y == w))

-- how many of the three directed edges go from u to w
abbrev pub edges_of : (u w : ℕ) → DirectedFacet → ℕ
edges_of u w f = one_edge u w f.a f.b + one_edge u w f.b f.c + one_edge u w f.c f.a

-- how many of those of a list of facets
abbrev pub edge_count : (u w : ℕ) → List DirectedFacet → ℕ
edge_count u w facets = sum_by (edges_of u w) facets
