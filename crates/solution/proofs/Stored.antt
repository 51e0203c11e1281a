-- The store that is built of a scan's points. It has all cells of the scan's scene, so each row of a list of all cells is that
-- of one live cell, and back.
use Rattle.std.proofs.Common.{ℕ, ◌≡◌, ◌+◌, ◌<◌, ◌++◌, ap, subst, ◌∙◌, true, false, List, length}
use Rattle.std.proofs.Common.{slice_index_or}
use Rattle.std.proofs.lemmas.List.{length-append}
use Rattle.cell_laws.proofs.RisingRows.{row_law}
use Rattle.delaunay.specs.Partition.{IsPartition}
use Rattle.flow_net.specs.declared.votes.Settings.{Settings}
use Rattle.geo_sign.specs.Point.{Point}
use Rattle.geo_sign.specs.Vertices.{corners}
use Rattle.geo_sign.specs.Vertices.{boxed_vertices}
use Rattle.scan_rows.specs.Shown.{Shown}
use Rattle.solution.specs.Scans.{points_of, scene_of_scan}
use Rattle.tetra_store.specs.Delaunay.{IsDelaunay}
use Rattle.tetra_store.specs.Links.{links_of}
use Rattle.tetra_store.specs.Store.{Store}
use Rattle.cell_net.specs.Counts.{AreCellsOf}
use Rattle.cell_net.proofs.Stored.{listed, live}
use Rattle.solution.specs.Stored.{IsStoreOf}

-- there are eight corners before the points
pub corner_count : (s : Store) (points : List Point) → s.points ≡ corners ++ points → length s.points ≡ 8 + length points
corner_count s points e = ap length e ∙ length-append corners points

-- a store that has the scan's points and all cells of its scene is the scan's
pub store_is : (scan : Shown) (settings : Settings) (s : Store) (points : List Point) → points ≡ points_of scan
    → s.points ≡ corners ++ points → ((u : ℕ) → u < length s.points → slice_index_or s.inserted u false ≡ true)
    → IsDelaunay (boxed_vertices points) (links_of s.slots) → IsPartition s → AreCellsOf (scene_of_scan scan settings) s.slots
    → IsStoreOf scan settings s
store_is scan settings s points are stored inserted delaunay partition cells =
    record {
      points = stored ∙ ap (λ (list : List Point). corners ++ list) are;
      inserted = inserted;
      delaunay = subst (λ (list : List Point). IsDelaunay (boxed_vertices list) (links_of s.slots)) are delaunay;
      partition = partition;
      cells = λ complex is.
          (let law = row_law (boxed_vertices (points_of scan)) _ (links_of s.slots).at cells.listing in
          record {
            row = λ id h. (let z = law.row id (listed s.slots id h) in (z.0, z.1.is, is.cells_are.all z.0 z.2));
            cell = λ row there. (let z = law.name row (is.cells_are.cells row there) in (z.0, live s.slots z.0 z.1, z.2));
          });
    }
