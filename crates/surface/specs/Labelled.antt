-- Labels of a store's cells, as a test of their numbers in the store, and the mesh that they cut.
--
--   AreDistinctNumbers ids                    no number occurs twice
--   AreAllLive slots ids                      all live cells, each once
--   listed_label ids labels id                the label of a cell, if the labels are in the order of a list of cells
--   NoneHasCorner slots inside                no cell inside has a corner of the box
--   IsCutFacet slots inside facet             the facet of a live outside cell whose adjacent cell is inside, the least
--                                             vertex first
--   AreCutFacets slots inside facets          exactly these facets, ascending
--   IsCutMesh points slots inside mesh        the mesh of these facets
--   AreLabelsOver s rising slots inside test  the live cells are all cells of the scene; the labels by their numbers
--                                             are those of a test of cells; no inside cell is fixed outside
--   OverScenes slots inside claim             the claim holds for each scene, its ascending complex and each test of
--                                             cells, if the labels `inside` are those of the test (`AreLabelsOver`)
--   mesh_over points scene rising test        the mesh of the facets of the scene between outside and inside cells by
--                                             the test, with those of the points that these facets use
--   IsSortedCut slots outside facets          the sorted list of the facets between a cell with a flag (outside) and an
--                                             adjacent cell without one
use Rattle.std.specs.Prelude.{ℕ, ◌≡◌, ◌<◌, ◌==◌, Bool, true, false, List, Option, Some, map, length, slice_index, AllPairs, Contains}
use Rattle.std.specs.List.{position_or_len}
use Rattle.std.specs.List.Sorted.{IsNonDecreasingBy}
use Rattle.flow_net.specs.Nets.{flag_at}
use Rattle.geo_sign.specs.Point.{Point}
use Rattle.geo_sign.specs.Rising.{IsBefore}
use Rattle.mesh.specs.Meshes.{Surface, mesh_of}
use Rattle.mesh.specs.declared.mesh.Mesh.{Mesh}
use Rattle.visibility.specs.Scenes.{Scene}
use Rattle.visibility.specs.Complexes.{Complex}
use Rattle.visibility.specs.Cuts.{IsAdmissible, cut_facets}
use Rattle.visibility.specs.Votes.{has_corner, IsComplexOf}
use Rattle.tetra_store.specs.declared.link.Cell.{Cell}
use Rattle.tetra_store.specs.Links.{links_of, IsLive}
use Rattle.cell_net.specs.declared.sides.Side.{Side}
use Rattle.cell_net.specs.ByNumber.{SaysOfCells}
use Rattle.cell_net.specs.CellRows.{facet_row}
use Rattle.cell_net.specs.Counts.{AreCellsOf}
use Rattle.cell_net.specs.CutSides.{AreCutSides}
use Rattle.cell_net.specs.Gathered.{key_of_side}
use Rattle.cell_net.specs.Parts.{facet_of_side}

-- equal numbers have the same index
abbrev pub AreDistinctNumbers : List ℕ → Type 0
AreDistinctNumbers ids = (i j : ℕ) → i < length ids → j < length ids → slice_index ids i ≡ slice_index ids j → i ≡ j

-- the numbers of all live cells, each once
pub record AreAllLive (slots : List (Option Cell)) (ids : List ℕ) : Type 0 where
  pub live : (k : ℕ) → k < length ids → IsLive (links_of slots) (slice_index ids k)
  pub all : (id : ℕ) → IsLive (links_of slots) id → Contains ids id
  pub once : AreDistinctNumbers ids

-- at the index of the cell; a cell that is not in the list is outside, if there are as many labels as cells
abbrev pub listed_label : List ℕ → List Bool → ℕ → Bool
listed_label ids labels id = flag_at labels (position_or_len (λ other. other == id) ids)

-- live cells with a corner are outside
abbrev pub NoneHasCorner : List (Option Cell) → (ℕ → Bool) → Type 0
NoneHasCorner slots inside =
    (id : ℕ) → IsLive (links_of slots) id → inside id ≡ true → has_corner ((links_of slots).at id) ≡ false

-- The cell adjacent through the side of a live outside cell is inside. The facet is that of the outside cell, the least vertex
-- first.
pub record IsCutFacet (slots : List (Option Cell)) (inside : ℕ → Bool) (facet : List ℕ) : Type 0 where
  pub own : ℕ
  pub side : ℕ
  pub other : ℕ
  pub live : IsLive (links_of slots) own
  pub in_range : side < 4
  pub across : (links_of slots).next own side ≡ Some other
  pub is_outside : inside own ≡ false
  pub is_inside : inside other ≡ true
  pub facet_is : facet ≡ facet_row ((links_of slots).at own) side

-- there are no others, and they ascend, so each occurs once
pub record AreCutFacets (slots : List (Option Cell)) (inside : ℕ → Bool) (facets : List (List ℕ)) : Type 0 where
  pub only : (f : List ℕ) → Contains facets f → IsCutFacet slots inside f
  pub all : (f : List ℕ) → IsCutFacet slots inside f → Contains facets f
  pub rising : AllPairs IsBefore facets

-- among these points
pub record IsCutMesh (points : List Point) (slots : List (Option Cell)) (inside : ℕ → Bool) (mesh : Mesh) : Type 0 where
  pub facets : List (List ℕ)
  pub are_cut : AreCutFacets slots inside facets
  pub points_are : mesh.points.items ≡ (mesh_of points facets).points
  pub faces_are : mesh.faces.items ≡ (mesh_of points facets).faces

-- the store has all cells of the scene, the labels of their numbers are those of a test of cells, and no cell inside has a corner or a
-- scanner
pub record AreLabelsOver (s : Scene) (rising : Complex) (slots : List (Option Cell)) (inside : ℕ → Bool) (test : List ℕ → Bool)
    : Type 0 where
  pub cells : AreCellsOf s slots
  pub complex_is : IsComplexOf s rising
  pub says : SaysOfCells slots inside test
  pub admissible : IsAdmissible s rising test

-- over each such scene, its ascending complex and the test
abbrev pub OverScenes : List (Option Cell) → (ℕ → Bool) → (Scene → Complex → (List ℕ → Bool) → Type 0) → Type 0
OverScenes slots inside claim =
    (scene : Scene) (rising : Complex) (test : List ℕ → Bool) → AreLabelsOver scene rising slots inside test
    → claim scene rising test

-- its faces are numbered by the points that they use
abbrev pub mesh_over : List Point → Scene → Complex → (List ℕ → Bool) → Surface
mesh_over points scene rising test = mesh_of points (cut_facets scene.vertices rising test)

-- in the order of their numbers
pub record IsSortedCut (slots : List (Option Cell)) (outside : List Bool) (facets : List (List ℕ)) : Type 0 where
  pub sides : List Side
  pub are_cut : AreCutSides slots outside sides
  pub sorted : IsNonDecreasingBy key_of_side sides
  pub facets_are : facets ≡ map facet_of_side sides
