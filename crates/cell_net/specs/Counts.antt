-- What is asked of the counts, and what is made of them. Counts are by the numbers that cells have in the store.
--
--   AreCellsOf scene slots  the store's live cells are all cells of the scene, each once, linked (`AreAllCells`)
--   row_of slots id         the four vertices of a live cell, in ascending order
--   AreCrossingCounts       at 4 * id + side: the sum of the weights of the sights that cross the facet of that side
--   AreBehind               at the number of each cell: the sum of the weights of the sights that the cell is behind
--   AreFixed                at the number of each cell: whether it is fixed outside
--   AreIdsOf slots rows ids   for each sorted vertex tuple the number of the live cell that has it
--   AreCountsOf scene slots crossed behind fixed
--                           what a network is made of: all cells of the scene, not too many, and these three lists of
--                           counts
use Rattle.std.specs.Prelude.{ℕ, ◌≡◌, ◌<◌, ◌≤◌, ◌+◌, ◌*◌, ◌^◌, Bool, List, [], Option, length, slice_index}
use Rattle.std.specs.Prelude.{slice_index_or}
use Rattle.geo_sign.specs.Tetrahedron.{DirectedFacet, facet_of, IsRotated}
use Rattle.flow_net.specs.Nets.{flag_at}
use Rattle.flow_net.specs.Weights.{IsSightList}
use Rattle.visibility.specs.Scenes.{Scene}
use Rattle.visibility.specs.Votes.{crossings, sights_before, is_fixed}
use Rattle.cell_laws.specs.LinkLaws.{AreAllCells}
use Rattle.tetra_store.specs.declared.link.Cell.{Cell}
use Rattle.tetra_store.specs.Links.{links_of, IsLive}
use Rattle.cell_net.specs.CellRows.{risen, row_from}
use Rattle.tetra_store.specs.Stored.{live_of}

-- the store's cells are all cells of the scene
abbrev pub AreCellsOf : Scene → List (Option Cell) → Type 0
AreCellsOf s slots = AreAllCells s.vertices (live_of slots) (links_of slots).at (links_of slots).next

-- of the cell with this number
abbrev pub row_of : List (Option Cell) → ℕ → List ℕ
row_of slots id = row_from (risen ((links_of slots).at id))

-- four counts a cell at least: at 4 * id + k the crossings of the facet of side k, from whatever vertex on it is written
pub record AreCrossingCounts (s : Scene) (slots : List (Option Cell)) (crossed : List ℕ) : Type 0 where
  pub count : 4 * length slots ≤ length crossed
  pub at : (id k : ℕ) (f : DirectedFacet) → IsLive (links_of slots) id → k < 4
      → IsRotated (facet_of ((links_of slots).at id) k) f
      → slice_index crossed (4 * id + k) ≡ crossings s f

-- a count a cell at least
pub record AreBehind (s : Scene) (slots : List (Option Cell)) (behind : List ℕ) : Type 0 where
  pub count : length slots ≤ length behind
  pub at : (id : ℕ) → IsLive (links_of slots) id → slice_index behind id ≡ sights_before s (row_of slots id)

-- a flag a cell at least
pub record AreFixed (s : Scene) (slots : List (Option Cell)) (fixed : List Bool) : Type 0 where
  pub count : length slots ≤ length fixed
  pub at : (id : ℕ) → IsLive (links_of slots) id → flag_at fixed id ≡ is_fixed s.vertices s.scanners (row_of slots id)

-- one number a row, of the live cell with these numbers
pub record AreIdsOf (slots : List (Option Cell)) (rows : List (List ℕ)) (ids : List ℕ) : Type 0 where
  pub count : length ids ≡ length rows
  pub live : (k : ℕ) → k < length ids → IsLive (links_of slots) (slice_index ids k)
  pub row : (k : ℕ) → k < length ids → slice_index_or rows k [] ≡ row_of slots (slice_index ids k)

-- in all
pub record AreCountsOf (s : Scene) (slots : List (Option Cell)) (crossed behind : List ℕ) (fixed : List Bool) : Type 0 where
  pub cells : AreCellsOf s slots
  pub few : s.vertices.count ≤ 2 ^ 32
  pub few_sights : IsSightList s.sights
  pub crossings : AreCrossingCounts s slots crossed
  pub before : AreBehind s slots behind
  pub flags : AreFixed s slots fixed
