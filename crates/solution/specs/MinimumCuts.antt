-- The labels of a scene's cells with the least cost, and the flow that proves it.
--
--   IsCutOf s slots cut      by the numbers of cells and sides: the minimum cut with the smallest inside of the scene, and a
--                            valid flow whose value is its cost
use Rattle.std.specs.Prelude.{ℕ, ◌≡◌, ◌≤◌, ◌*◌, Bool, Option, List, length, slice_index}
use Rattle.flow_net.specs.Nets.{flag_at}
use Rattle.tetra_store.specs.declared.link.Cell.{Cell}
use Rattle.visibility.specs.Cuts.{cost as cost_over, IsLeastInside}
use Rattle.visibility.specs.Flows.{value, IsValidFlow}
use Rattle.visibility.specs.Listings.{IsListingOf}
use Rattle.visibility.specs.Scenes.{Scene}
use Rattle.cell_net.specs.ByNumber.{SaysOfCells, SaysOfSides, IsZeroElsewhere}
use Rattle.cell_net.specs.StoredComplexes.{stored_complex}
use Rattle.solution.specs.declared.cutting.MinimumCut.{MinimumCut}

-- no labels cost less than the value of the flow; labels and amounts agree with these functions of cells and facets
pub record IsCutOf (s : Scene) (slots : List (Option Cell)) (cut : MinimumCut) : Type 0 where
  pub fixed : List Bool
  pub inside : List ℕ → Bool
  pub on_facet : List ℕ → ℕ
  pub on_cell : List ℕ → ℕ
  pub listing : IsListingOf s (stored_complex fixed slots)
  pub labels_say : SaysOfCells slots (flag_at cut.labels.inside) inside
  pub cells : length slots ≤ length cut.labels.inside
  pub sides : 4 * length slots ≤ length cut.flow.on_arc
  pub arcs_say : SaysOfSides slots fixed (slice_index cut.flow.on_arc) on_facet
  pub zero_elsewhere : IsZeroElsewhere slots fixed (slice_index cut.flow.on_arc)
  pub sinks_say : SaysOfCells slots (slice_index cut.flow.on_sink) on_cell
  pub least : IsLeastInside s (stored_complex fixed slots) inside
  pub valid : IsValidFlow s (stored_complex fixed slots) on_facet on_cell
  pub equal : cost_over s (stored_complex fixed slots) inside ≡ value s (stored_complex fixed slots) on_cell
  pub cost_is : cut.cost ≡ cost_over s (stored_complex fixed slots) inside
