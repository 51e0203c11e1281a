-- The linked cells of a scan, with labels by their numbers.
--
--   IsSolid scan settings s flags     the linked cells of a scan, with a flag at each number: whether the cell is
--                                     inside
--   IsFlaggedAs s flags q flag        the flag of the live cell in which the perturbed point strictly lies
--   AreFlagged s flags points found   such flags for points, one each
use Rattle.std.specs.Prelude.{ℕ, ◌≡◌, ◌<◌, ◌++◌, Bool, true, List, length, slice_index_or}
use Rattle.flow_net.specs.Nets.{flag_at}
use Rattle.flow_net.specs.declared.votes.Settings.{Settings}
use Rattle.geo_sign.specs.Point.{Point, origin}
use Rattle.geo_sign.specs.Rational.{displaced}
use Rattle.geo_sign.specs.Sights.{is_cell_of}
use Rattle.geo_sign.specs.Vertices.{corners}
use Rattle.scan_rows.specs.Shown.{Shown}
use Rattle.solution.specs.Scans.{points_of, scene_of_scan}
use Rattle.tetra_store.specs.Delaunay.{IsDelaunay}
use Rattle.tetra_store.specs.Links.{links_of, IsLive}
use Rattle.tetra_store.specs.Store.{Store, vertices_of}
use Rattle.visibility.specs.Complexes.{Complex}
use Rattle.visibility.specs.Cuts.{IsLeastInside}
use Rattle.visibility.specs.Votes.{IsComplexOf}
use Rattle.cell_net.specs.Counts.{AreCellsOf, row_of}

-- the Delaunay cells of the box's corners and the scan's distinct points, and for each by its number whether it is in the
-- minimum cut with the smallest inside
pub record IsSolid (scan : Shown) (settings : Settings) (s : Store) (flags : List Bool) : Type 0 where
  pub points : s.points ≡ corners ++ points_of scan
  pub delaunay : IsDelaunay (vertices_of s) (links_of s.slots)
  pub cells : AreCellsOf (scene_of_scan scan settings) s.slots
  pub complex : Complex
  pub inside : List ℕ → Bool
  pub complex_is : IsComplexOf (scene_of_scan scan settings) complex
  pub least : IsLeastInside (scene_of_scan scan settings) complex inside
  pub fits : (id : ℕ) → IsLive (links_of s.slots) id → id < length flags
  pub flags_are : (id : ℕ) → IsLive (links_of s.slots) id → flag_at flags id ≡ inside (row_of s.slots id)

-- the live cell that contains the perturbed point has this flag
pub record IsFlaggedAs (s : Store) (flags : List Bool) (q : Point) (flag : Bool) : Type 0 where
  pub cell : ℕ
  pub live : IsLive (links_of s.slots) cell
  pub has : is_cell_of (vertices_of s) (displaced q) ((links_of s.slots).at cell) ≡ true
  pub flag_is : flag ≡ flag_at flags cell

-- the same for points, one each
pub record AreFlagged (s : Store) (flags : List Bool) (points : List Point) (found : List Bool) : Type 0 where
  pub count : length found ≡ length points
  pub each : (k : ℕ) → k < length points → IsFlaggedAs s flags (slice_index_or points k origin) (flag_at found k)
