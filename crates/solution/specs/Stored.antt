-- The linked cells of a scan.
--
--   AreRowsOf slots cells          the list has the sorted vertex tuple of each live cell, and nothing else
--   IsStoreOf scan settings s      a store of the corners and a scan's distinct points, all inserted. Its linked cells
--                                  are exactly their Delaunay cells (`IsDelaunay`), a partition of the box
--                                  (`IsPartition`). The cells of each complex of the scan are the sorted vertex tuples
--                                  of these
use Rattle.std.specs.Prelude.{ℕ, ◌≡◌, ◌<◌, ◌++◌, true, false, List, Option, length, slice_index_or, Contains}
use Rattle.delaunay.specs.Partition.{IsPartition}
use Rattle.flow_net.specs.declared.votes.Settings.{Settings}
use Rattle.geo_sign.specs.RowLaws.{IsRowOf}
use Rattle.geo_sign.specs.Vertices.{corners, boxed_vertices}
use Rattle.scan_rows.specs.Shown.{Shown}
use Rattle.solution.specs.Scans.{points_of, scene_of_scan}
use Rattle.tetra_store.specs.Delaunay.{IsDelaunay}
use Rattle.tetra_store.specs.Links.{links_of, IsLive}
use Rattle.tetra_store.specs.Store.{Store}
use Rattle.tetra_store.specs.declared.link.Cell.{Cell}
use Rattle.visibility.specs.Complexes.{Complex}
use Rattle.visibility.specs.Votes.{IsComplexOf}

-- the sorted vertex tuple of each live cell is in the list, and each entry is that of a live cell
pub record AreRowsOf (slots : List (Option Cell)) (cells : List (List ℕ)) : Type 0 where
  pub row : (id : ℕ) → IsLive (links_of slots) id → (row : List ℕ) × IsRowOf ((links_of slots).at id) row × Contains cells row
  pub cell : (row : List ℕ) → Contains cells row → (id : ℕ) × IsLive (links_of slots) id × IsRowOf ((links_of slots).at id) row

-- The corners of the box and the scan's distinct points in their order, all inserted. The live cells are exactly their Delaunay
-- cells, and partition the box. Any complex of the scan, so also that of a solution, has the live cells' sorted vertex tuples
-- as its cells.
pub record IsStoreOf (scan : Shown) (settings : Settings) (s : Store) : Type 0 where
  pub points : s.points ≡ corners ++ points_of scan
  pub inserted : (u : ℕ) → u < length s.points → slice_index_or s.inserted u false ≡ true
  pub delaunay : IsDelaunay (boxed_vertices (points_of scan)) (links_of s.slots)
  pub partition : IsPartition s
  pub cells : (complex : Complex) → IsComplexOf (scene_of_scan scan settings) complex → AreRowsOf s.slots complex.cells
