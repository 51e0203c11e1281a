-- What holds by the numbers of cells and of their sides holds over cells and facets.
--
--   IsStoreNetwork s slots fixed net
--                                  labels and flows by the numbers of cells and sides are judged in this network by
--                                  numbers as over the store's complex, which lists the scene's cells and facets. No
--                                  valid flow has an amount at other sides. Over the complex too the value of a valid
--                                  flow is at most the cost of admissible labels
--   StoreNetworkLaw                if counts and flags are those of the cells of a scene (`AreCountsOf`), the network
--                                  that `numbered_with` makes of them satisfies `IsStoreNetwork`
use Rattle.std.specs.Prelude.{ℕ, ◌≡◌, ◌≤◌, Bool, Option, List, slice_index}
use Rattle.flow_net.specs.declared.Labels.{Labels}
use Rattle.flow_net.specs.declared.Flow.{Flow}
use Rattle.flow_net.specs.declared.votes.Settings.{Settings}
use Rattle.flow_net.specs.Nets.{flag_at}
use Rattle.flow_net.specs.Numbered.{NumberedNetwork}
use Rattle.flow_net.specs.NumberedFlows as numbered
use Rattle.tetra_store.specs.declared.link.Cell.{Cell}
use Rattle.visibility.specs.Scenes.{Scene}
use Rattle.visibility.specs.Cuts.{cost, IsAdmissible, IsLeastInside}
use Rattle.visibility.specs.Flows.{value, IsValidFlow}
use Rattle.visibility.specs.Listings.{IsListingOf}
use Rattle.cell_net.specs.Arcs.{IsShape}
use Rattle.cell_net.specs.Shape.{numbered_with}
use Rattle.cell_net.specs.ByNumber.{SaysOfCells, SaysOfSides, IsZeroElsewhere}
use Rattle.cell_net.specs.Counts.{AreCountsOf}
use Rattle.cell_net.specs.StoredComplexes.{stored_complex}

-- The complex lists the scene's cells and facets. Labels and flows by number have the same cost and value as those that say so
-- of cells and facets, and have the smallest inside and are valid if these do and are. No valid flow has an amount at a side
-- without a free adjacent cell. Over cells and facets too the value of a valid flow is at most the cost of admissible labels, so
-- one whose value is a least cost is a largest one.
pub record IsStoreNetwork (s : Scene) (slots : List (Option Cell)) (fixed : List Bool) (net : NumberedNetwork) : Type 0 where
  pub listing : IsListingOf s (stored_complex fixed slots)
  pub cost_is : (labels : Labels) (inside : List ℕ → Bool) → SaysOfCells slots (flag_at labels.inside) inside
      → numbered.cost_of net labels ≡ cost s (stored_complex fixed slots) inside
  pub least_inside : (labels : Labels) (inside : List ℕ → Bool) → SaysOfCells slots (flag_at labels.inside) inside
      → numbered.IsLeastInside net labels → IsLeastInside s (stored_complex fixed slots) inside
  pub value_is : (flow : Flow) (on_cell : List ℕ → ℕ) → SaysOfCells slots (slice_index flow.on_sink) on_cell
      → numbered.value_of net flow ≡ value s (stored_complex fixed slots) on_cell
  pub valid : (flow : Flow) (on_facet on_cell : List ℕ → ℕ) → SaysOfSides slots fixed (slice_index flow.on_arc) on_facet
      → SaysOfCells slots (slice_index flow.on_sink) on_cell → numbered.IsValidFlow net flow
      → IsValidFlow s (stored_complex fixed slots) on_facet on_cell
  pub zero_elsewhere : (flow : Flow) → numbered.IsValidFlow net flow → IsZeroElsewhere slots fixed (slice_index flow.on_arc)
  pub at_most : (on_facet on_cell : List ℕ → ℕ) (inside : List ℕ → Bool) → IsValidFlow s (stored_complex fixed slots) on_facet on_cell
      → IsAdmissible s (stored_complex fixed slots) inside
      → value s (stored_complex fixed slots) on_cell ≤ cost s (stored_complex fixed slots) inside

-- where counts and settings are those of a scene
abbrev pub StoreNetworkLaw : Type 0
StoreNetworkLaw =
    (s : Scene) (slots : List (Option Cell)) (crossed behind : List ℕ) (fixed : List Bool) (settings : Settings)
    → AreCountsOf s slots crossed behind fixed → (shape : IsShape slots crossed behind fixed settings) → s.settings ≡ settings
    → IsStoreNetwork s slots fixed (numbered_with slots crossed behind fixed settings shape)
