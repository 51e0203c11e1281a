-- The network of a scene by numbers: node k is the k-th cell, arc j is the j-th facet.
--
--   complex_of voted         the cells of a network's nodes and the facets of its arcs
--   facet_index facets f     the index of a facet in the list
--   pair_of s complex f      the number of the reverse arc
--   arc_of s complex f       the arc of a facet
--   IsNetworkOf s voted      the listed network: node k is the k-th cell and arc j the j-th facet of the ascending
--                            lists
--   IsNetworkAmong v         the listed network of some scene over these vertices
use Rattle.std.specs.Prelude.{ℕ, ◌≡◌, Option, Some, None, List, map, if◌then◌else◌}
use Rattle.std.specs.List.{position_or_len}
use Rattle.flow_net.specs.declared.Arc.{Arc}
use Rattle.flow_net.specs.declared.Voted.{Voted}
use Rattle.flow_net.specs.declared.votes.Settings.{Settings}
use Rattle.flow_net.specs.declared.votes.Sight.{Sight}
use Rattle.geo_sign.specs.Point.{Point}
use Rattle.geo_sign.specs.Tetrahedron.{DirectedFacet, facet_at, turned, is_same_facet}
use Rattle.geo_sign.specs.Vertices.{Vertices}
use Rattle.visibility.specs.Scenes.{Scene}
use Rattle.visibility.specs.Complexes.{Complex, cell_index, cell_of}
use Rattle.visibility.specs.Votes.{is_fixed, capacity, sink, IsComplexOf}

-- the cells that the nodes stand for, and the facets that the arcs stand for
abbrev pub complex_of : Voted → Complex
complex_of voted = record { cells = voted.cells; facets = voted.facets }

-- the index of a facet in the list
abbrev pub facet_index : List (List ℕ) → DirectedFacet → ℕ
facet_index facets f = position_or_len (λ numbers. is_same_facet (facet_at numbers) f) facets

-- the number of the opposite facet, where the facet's own cell is free; else it has no capacity
abbrev pub pair_of : Scene → Complex → DirectedFacet → Option ℕ
pair_of s complex f =
    if is_fixed s.vertices s.scanners (cell_of s.vertices complex.cells f) then None
    else Some (facet_index complex.facets (turned f))

-- the arc of a facet: from its own cell to the adjacent cell
unfoldable pub arc_of : Scene → Complex → List ℕ → Arc
arc_of s complex f =
    record {
      from = cell_index s.vertices complex.cells (facet_at f);
      to = cell_index s.vertices complex.cells (turned (facet_at f));
      cap = capacity s (facet_at f);
      pair = pair_of s complex (facet_at f);
    }

-- the network of the scene, with its cells and facets in ascending order
pub record IsNetworkOf (s : Scene) (voted : Voted) : Type 0 where
  pub complex_is : IsComplexOf s (complex_of voted)
  pub fixed_is : voted.net.fixed ≡ map (is_fixed s.vertices s.scanners) voted.cells
  pub sink_is : voted.net.sink ≡ map (sink s) voted.cells
  pub arcs_are : voted.net.arcs ≡ map (arc_of s (complex_of voted)) voted.facets

-- the network of these vertices and some scanners, sights and settings
pub record IsNetworkAmong (v : Vertices) (voted : Voted) : Type 0 where
  pub scanners : List Point
  pub sights : List Sight
  pub settings : Settings
  pub network : IsNetworkOf (record { vertices = v; scanners = scanners; sights = sights; settings = settings }) voted
