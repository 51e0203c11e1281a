-- Counts do not depend on how a facet or a cell is written.
--
--   FacetCountLaw     the total weight of the sights that cross a facet does not depend on the vertex from which the
--                     facet is written
--   AreCellCounts s slots id
--                     the weight of the sights that the cell with this number is behind, and whether it is fixed
--                     outside, can be computed from its vertices in the store's order, as well as from its sorted
--                     vertex tuple
--   CellCountLaw      `AreCellCounts` holds for each live cell of a store that has all cells of the scene
--                     (`AreCellsOf`)
use Rattle.std.specs.Prelude.{ℕ, ◌≡◌, ◌||◌, List, Option}
use Rattle.flow_net.specs.Weights.{weight_where}
use Rattle.geo_sign.specs.Sights.{is_behind}
use Rattle.geo_sign.specs.Tetrahedron.{DirectedFacet, IsRotated}
use Rattle.visibility.specs.Scenes.{Scene, scanner_point}
use Rattle.visibility.specs.Votes.{crossings, sights_before, is_fixed, has_corner, has_scanner}
use Rattle.tetra_store.specs.declared.link.Cell.{Cell}
use Rattle.tetra_store.specs.Links.{links_of, IsLive}
use Rattle.cell_net.specs.Counts.{AreCellsOf, row_of}

-- a rotated facet has the same crossings
abbrev pub FacetCountLaw : Type 0
FacetCountLaw = (s : Scene) (f g : DirectedFacet) → IsRotated f g → crossings s f ≡ crossings s g

-- the sights before the cell, and whether it is fixed
pub record AreCellCounts (s : Scene) (slots : List (Option Cell)) (id : ℕ) : Type 0 where
  pub before : sights_before s (row_of slots id)
      ≡ weight_where
      (λ sight. is_behind s.vertices sight.vertex (scanner_point s.scanners sight.scanner) ((links_of slots).at id)) s.sights
  pub fixed : is_fixed s.vertices s.scanners (row_of slots id)
      ≡ (has_corner ((links_of slots).at id) || has_scanner s.vertices s.scanners ((links_of slots).at id))

-- in a store that has all cells of the scene
abbrev pub CellCountLaw : Type 0
CellCountLaw =
    (s : Scene) (slots : List (Option Cell)) → AreCellsOf s slots → (id : ℕ) → IsLive
    (links_of slots) id → AreCellCounts s slots id
