-- The network of cells and directed facets, labels of cells as inside or outside, and what they cost, all as of any network
-- (Networks of flow_net). Labels are a test of cells.
--
--   network_over s complex             the network of cells and facets: its nodes are the listed cells, its arcs the
--                                      listed facets, each from its own cell to the adjacent one
--   is_cut s complex inside f          the facet leads from an outside cell to an inside one
--   cut_facets v complex inside        the facets of outside cells with an inside adjacent cell, in ascending order
--   cost s complex inside              of labels (a test of cells) in this network: the capacities of facets from
--                                      outside cells to inside ones, plus the sinks of outside cells
--   IsAdmissible s complex inside      no cell that is fixed outside is inside
--   IsLeastCost s complex inside       no admissible labels cost less
--   IsLeastInside s complex inside     the inside is contained in that of all labels of that cost
use Rattle.std.specs.Prelude.{ℕ, ◌&&◌, not, Bool, List, filter, Contains}
use Rattle.std.specs.List.{sum_by}
use Rattle.std.specs.Str.{bytes_eq}
use Rattle.flow_net.specs.Networks as networks
use Rattle.flow_net.specs.Networks.{Network}
use Rattle.geo_sign.specs.Vertices.{Vertices}
use Rattle.visibility.specs.Scenes.{Scene}
use Rattle.geo_sign.specs.Tetrahedron.{facet_at, turned}
use Rattle.visibility.specs.Complexes.{Complex, cell_of}
use Rattle.visibility.specs.Votes.{is_fixed, capacity, sink}

-- The graph of a scene. Its nodes are the cells; cells fixed outside are fixed nodes. Its arcs are the listed directed
-- facets: each leads from the facet's own cell to the adjacent cell. Its capacities and sinks are `capacity` and
-- `sink`.
abbrev pub network_over : Scene → Complex → Network (List ℕ) (List ℕ)
network_over s complex =
    record {
      HasNode = Contains complex.cells;
      HasArc = Contains complex.facets;
      node_sum = λ amount. sum_by amount complex.cells;
      arc_sum = λ amount. sum_by amount complex.facets;
      from = λ f. cell_of s.vertices complex.cells (facet_at f);
      to = λ f. cell_of s.vertices complex.cells (turned (facet_at f));
      is_same = bytes_eq;
      capacity = λ f. capacity s (facet_at f);
      is_fixed = is_fixed s.vertices s.scanners;
      sink = sink s;
    }

-- Tests whether the facet is on the surface: the cell on its positive side is outside, and the adjacent cell is inside.
abbrev pub is_cut : Vertices → List (List ℕ) → (List ℕ → Bool) → List ℕ → Bool
is_cut v cells inside f = not (inside (cell_of v cells (facet_at f))) && inside (cell_of v cells (turned (facet_at f)))

-- The facets of the surface, counterclockwise as seen from outside, sorted by their vertex numbers.
abbrev pub cut_facets : Vertices → Complex → (List ℕ → Bool) → List (List ℕ)
cut_facets v complex inside = filter (is_cut v complex.cells inside) complex.facets

-- the cost of labels: the capacities of facets of outside cells with an inside adjacent cell, and the sinks of outside cells
abbrev pub cost : Scene → Complex → (List ℕ → Bool) → ℕ
cost s complex = networks.cost (network_over s complex)

-- no cell fixed outside is inside
abbrev pub IsAdmissible : Scene → Complex → (List ℕ → Bool) → Type 0
IsAdmissible s complex = networks.IsAdmissible (network_over s complex)

-- admissible labels that cost no more than any admissible labels
abbrev pub IsLeastCost : Scene → Complex → (List ℕ → Bool) → Type 0
IsLeastCost s complex = networks.IsLeastCost (network_over s complex)

-- The labelling of the scene's cells is the minimum cut with the smallest inside.
abbrev pub IsLeastInside : Scene → Complex → (List ℕ → Bool) → Type 0
IsLeastInside s complex = networks.IsLeastInside (network_over s complex)
