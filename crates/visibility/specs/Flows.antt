-- Flows through facets into cells, as of any network (Networks of flow_net). A flow is an amount on each facet that has a
-- capacity, and one at each cell.
--
--   value s complex on_cell                      the amounts at free cells' sinks, plus the whole sinks of the other
--                                                cells
--   IsValidFlow s complex on_facet on_cell       of amounts on directed facets and cells, in this network: within
--                                                capacities and sinks, 0 at the sinks of cells fixed outside, balanced
--                                                at free cells
use Rattle.std.specs.Prelude.{ℕ, List}
use Rattle.flow_net.specs.Networks as networks
use Rattle.visibility.specs.Complexes.{Complex}
use Rattle.visibility.specs.Cuts.{network_over}
use Rattle.visibility.specs.Scenes.{Scene}

-- the value of a flow: the amounts at free cells, and the sinks of cells fixed outside
abbrev pub value : Scene → Complex → (on_cell : List ℕ → ℕ) → ℕ
value s complex = networks.value (network_over s complex)

-- a flow that keeps within capacities and sinks, is 0 at the sinks of cells fixed outside, and is balanced at free cells
abbrev pub IsValidFlow : Scene → Complex → (on_facet on_cell : List ℕ → ℕ) → Type 0
IsValidFlow s complex = networks.IsValidFlow (network_over s complex)
