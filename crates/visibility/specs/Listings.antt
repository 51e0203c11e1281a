-- Cells and facets listed in any order.
--
--   AreOnce rows               no two elements are equal
--   IsListingOf s listing      the cells of the scene and the facets that have a capacity, each once, in any order. The
--                              first cell of each facet is the same as in the ascending lists
--   AgreeInAnyOrder s c d      in the networks over the lists c and d of cells and facets, the same labels have the
--                              same cost and the smallest inside, and the same flows are valid and have the same value
--                              (`AgreeAsNetworks`)
use Rattle.std.specs.Prelude.{ℕ, ◌≡◌, ◌≢◌, List, AllPairs}
use Rattle.std.specs.List.Sorted.{IsPermutation}
use Rattle.flow_net.specs.Networks.{AgreeAsNetworks}
use Rattle.geo_sign.specs.Tetrahedron.{DirectedFacet}
use Rattle.visibility.specs.Scenes.{Scene}
use Rattle.visibility.specs.Complexes.{Complex, HasFacet, cell_of}
use Rattle.visibility.specs.Votes.{IsComplexOf}
use Rattle.visibility.specs.Cuts.{network_over}

-- each row stands once
abbrev pub AreOnce : List (List ℕ) → Type 0
AreOnce rows = AllPairs (λ row other. row ≢ other) rows

-- the ascending lists of cells and of facets in another order, in which the first cell that has a facet is the same
pub record IsListingOf (s : Scene) (listing : Complex) : Type 0 where
  pub complex : Complex
  pub complex_is : IsComplexOf s complex
  pub cells_are : IsPermutation complex.cells listing.cells
  pub facets_are : IsPermutation complex.facets listing.facets
  pub same_cell : (f : DirectedFacet) → HasFacet s.vertices complex.cells f
      → cell_of s.vertices listing.cells f ≡ cell_of s.vertices complex.cells f

-- labels cost the same, and are admissible, minimum cuts and the one with the smallest inside together; flows have the same
-- value, and are valid together
abbrev pub AgreeInAnyOrder : Scene → Complex → Complex → Type 0
AgreeInAnyOrder s c d = AgreeAsNetworks (network_over s c) (network_over s d)
