-- The content of a sweep.
--
--   Swept                        what a sweep holds: points, scanners, sights, weights, the cells by their numbers in
--                                the store, and a flow by the numbers of cells and sides
--   given_in w, scene_in w       the points, scanners and sights of a sweep; their scene at its weights
--   sink_amount w id             what leaves at the sink of the cell with this number
--   IsOf w scan                  the points, scanners and sights are those of the scan
--   HasLargest w                 the flow is a maximum flow of the scene's network, and its value is the least cost
--   IsRaised old new smooth      the new area weight is `smooth`. The cells and all else of the scan are as before, and
--                                no less leaves at the sink of any cell
--   IsKept                       the invariant of the fields of a sweep
use Rattle.std.specs.Prelude.{ℕ, ◌≡◌, ◌<◌, ◌≤◌, ◌++◌, ◌^◌, Bool, List, Option, length, slice_index}
use Rattle.cell_net.specs.Arcs.{IsShape}
use Rattle.cell_net.specs.Shape.{numbered_with}
use Rattle.flow_net.specs.NumberedFlows.{IsLargest, IsLeastInside, cost_of, value_of}
use Rattle.flow_net.specs.declared.Flow.{Flow}
use Rattle.flow_net.specs.declared.Labels.{Labels}
use Rattle.flow_net.specs.declared.votes.Settings.{Settings}
use Rattle.flow_net.specs.declared.votes.Sight.{Sight}
use Rattle.geo_sign.specs.Point.{Point}
use Rattle.geo_sign.specs.Vertices.{corners}
use Rattle.scan_rows.specs.Shown.{Shown, IsShown}
use Rattle.solution.specs.Scans.{points_of, sights_of}
use Rattle.tetra_store.specs.Store.{Store}
use Rattle.tetra_store.specs.declared.link.Cell.{Cell}
use Rattle.visibility.specs.Scenes.{Scene, scene_of}
use Rattle.cell_net.specs.Counts.{AreCountsOf}
use Rattle.sweep.specs.Entries.{CostsLeast, Given, given_scene}

-- the distinct points, the scanners, the sights, the weights, the cell at each number, and an amount for each side and for each
-- cell: the flow over side k of the cell with number id is the entry at 4 * id + k
pub record Swept : Type 0 where
  pub points : List Point
  pub scanners : List Point
  pub sights : List Sight
  pub settings : Settings
  pub slots : List (Option Cell)
  pub flow : Flow

-- the points, the scanners and the sights
abbrev pub given_in : Swept → Given
given_in w = record { points = w.points; scanners = w.scanners; sights = w.sights }

-- the corners of the box and the points, the scanners, the sights and the weights
abbrev pub scene_in : Swept → Scene
scene_in w = given_scene (given_in w) w.settings

-- the flow into the sink of the cell with this number
abbrev pub sink_amount : Swept → ℕ → ℕ
sink_amount w = slice_index w.flow.on_sink

-- the distinct points of the scan, its scanners and its sights
pub record IsOf (w : Swept) (scan : Shown) : Type 0 where
  pub points : w.points ≡ points_of scan
  pub scanners : w.scanners ≡ scan.scanners
  pub sights : w.sights ≡ sights_of scan

-- The cells are those of the scene, and the flow is valid and maximal in the network of these with the counts of the scene.
-- This value is the least cost of labels over the scene's cells and facets. So the flow is maximal over these too: its amounts
-- there are a valid flow with the same value, and no valid flow there has a larger value than the cost of labels
-- (StoreNetworkLaw: valid, value_is, at_most), for any order of cells and facets (ListingsAgree).
pub record HasLargest (w : Swept) : Type 0 where
  pub crossed : List ℕ
  pub behind : List ℕ
  pub fixed : List Bool
  pub counts : AreCountsOf (scene_in w) w.slots crossed behind fixed
  pub shape : IsShape w.slots crossed behind fixed w.settings
  pub largest : IsLargest (numbered_with w.slots crossed behind fixed w.settings shape) w.flow
  pub equal : CostsLeast (scene_in w) (value_of (numbered_with w.slots crossed behind fixed w.settings shape) w.flow)

-- it is at this area weight, with the same points, scanners, sights, visibility weight and cells, and no less flows into the
-- sink of any cell
pub record IsRaised (old new : Swept) (smooth : ℕ) : Type 0 where
  pub smooth_is : new.settings.smooth ≡ smooth
  pub vote : new.settings.vote ≡ old.settings.vote
  pub points : new.points ≡ old.points
  pub scanners : new.scanners ≡ old.scanners
  pub sights : new.sights ≡ old.sights
  pub slots : new.slots ≡ old.slots
  pub sinks : (id : ℕ) → sink_amount old id ≤ sink_amount new id

-- The invariant of the fields: they are those of a scan; the counts are those of the scene over the store's cells; in the
-- network of these the flow is maximal, and the labels are the minimum cut with the smallest inside, whose cost is the value of
-- the flow.
pub record IsKept (points scanners : List Point) (sights : List Sight) (settings : Settings) (store : Store)
    (crossed behind : List ℕ) (fixed : List Bool) (flow : Flow) (labels : Labels) : Type 0 where
  pub scan : Shown
  pub shown : IsShown scan
  pub points_are : points ≡ points_of scan
  pub scanners_are : scanners ≡ scan.scanners
  pub sights_are : sights ≡ sights_of scan
  pub stored : store.points ≡ corners ++ points
  pub counts : AreCountsOf (scene_of points scanners sights settings) store.slots crossed behind fixed
  pub few : length fixed < 2 ^ 32
  pub shape : IsShape store.slots crossed behind fixed settings
  pub largest : IsLargest (numbered_with store.slots crossed behind fixed settings shape) flow
  pub least : IsLeastInside (numbered_with store.slots crossed behind fixed settings shape) labels
  pub equal : cost_of (numbered_with store.slots crossed behind fixed settings shape) labels
      ≡ value_of (numbered_with store.slots crossed behind fixed settings shape) flow
