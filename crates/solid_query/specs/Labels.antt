-- Labels of points.
--
--   IsLabelOf v cells inside q label     the label of that one of these cells in which the perturbed point strictly
--                                        lies
--   AreLabels scan settings points labels
--                                        a label for each of these points, among all Delaunay cells of the scan's
--                                        points, in the minimum cut with the smallest inside
--   IsLabelAt s ids inside q label       the label of that one of these linked cells in which the perturbed point
--                                        strictly lies
use Rattle.std.specs.Prelude.{ℕ, ◌≡◌, ◌<◌, Bool, true, List, length, slice_index, slice_index_or, Contains}
use Rattle.flow_net.specs.Nets.{flag_at}
use Rattle.flow_net.specs.declared.votes.Settings.{Settings}
use Rattle.geo_sign.specs.Cells.{written}
use Rattle.geo_sign.specs.Point.{Point, origin}
use Rattle.geo_sign.specs.Rational.{displaced}
use Rattle.geo_sign.specs.Sights.{is_cell_of}
use Rattle.geo_sign.specs.Vertices.{boxed_vertices}
use Rattle.geo_sign.specs.Vertices.{Vertices}
use Rattle.scan_rows.specs.Shown.{Shown}
use Rattle.solution.specs.Scans.{points_of, scene_of_scan}
pub use Rattle.surface.specs.Labelled.{AreAllLive}
use Rattle.tetra_store.specs.Links.{links_of}
use Rattle.tetra_store.specs.Store.{Store, vertices_of}
use Rattle.visibility.specs.Complexes.{Complex}
use Rattle.visibility.specs.Cuts.{IsLeastInside}
use Rattle.visibility.specs.Votes.{IsComplexOf}

-- The point is perturbed as a scanner is. It then lies strictly inside exactly one of the cells, on the inner side of each of
-- its facets, and has that cell's label.
pub record IsLabelOf (v : Vertices) (cells : List (List ℕ)) (inside : List ℕ → Bool) (q : Point) (label : Bool) : Type 0 where
  pub cell : List ℕ
  pub listed : Contains cells cell
  pub has : is_cell_of v (displaced q) (written v cell) ≡ true
  pub only : (other : List ℕ) → Contains cells other → is_cell_of v (displaced q) (written v other) ≡ true → other ≡ cell
  pub label_is : label ≡ inside cell

-- The labels of these points, one each: those of all Delaunay cells of the scan's distinct points and the box's corners, under
-- the labels of least cost whose inside is contained in that of all labels of that cost. True means inside.
pub record AreLabels (scan : Shown) (settings : Settings) (points : List Point) (labels : List Bool) : Type 0 where
  pub complex : Complex
  pub inside : List ℕ → Bool
  pub complex_is : IsComplexOf (scene_of_scan scan settings) complex
  pub least : IsLeastInside (scene_of_scan scan settings) complex inside
  pub count : length labels ≡ length points
  pub each : (k : ℕ) → k < length points
      → IsLabelOf (boxed_vertices (points_of scan)) complex.cells inside (slice_index_or points k origin) (flag_at labels k)

-- the one of the cells with these numbers that contains the perturbed point has this label
pub record IsLabelAt (s : Store) (ids : List ℕ) (inside : List Bool) (q : Point) (label : Bool) : Type 0 where
  pub index : ℕ
  pub within : index < length ids
  pub has : is_cell_of (vertices_of s) (displaced q) ((links_of s.slots).at (slice_index ids index)) ≡ true
  pub only : (k : ℕ) → k < length ids
      → is_cell_of (vertices_of s) (displaced q) ((links_of s.slots).at (slice_index ids k)) ≡ true
      → k ≡ index
  pub label_is : label ≡ flag_at inside index
