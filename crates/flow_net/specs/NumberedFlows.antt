-- Labels, what they cost, flows, their values, and which of them are best, in a network by numbers, all as of any network
-- (`Networks`). Labels and flows are lists, with an entry a node or an arc.
--
--   arc_cost        what an arc adds to the cost of labels
--   node_cost       what a node adds to it
--   cost_of net labels   the cost of labels in a network by numbers
--   amount_in       the sum of the amounts on the arcs that enter a node
--   amount_out      the sum of the amounts on the arcs that leave a node
--   node_value      what a node adds to the value of a flow
--   value_of        the value of a flow in a network by numbers
--   IsValidFlow     within capacities and sinks, balanced at free nodes, nothing at the sinks of fixed nodes
--   IsLargest       a valid flow whose value no valid flow passes
--   IsAdmissible    no fixed node is inside
--   IsLeastCost     no admissible labels cost less
--   IsLeastInside   the inside is contained in that of all labels of that cost
use Rattle.std.specs.Prelude.{ℕ, ◌≡◌, ◌≤◌, Bool, List, length, slice_index}
use Rattle.flow_net.specs.declared.Labels.{Labels}
use Rattle.flow_net.specs.declared.Flow.{Flow}
use Rattle.flow_net.specs.Nets.{flag_at}
use Rattle.flow_net.specs.Networks as networks
use Rattle.flow_net.specs.Numbered.{NumberedNetwork, network_by}

-- what arc j costs
abbrev pub arc_cost : NumberedNetwork → List Bool → ℕ → ℕ
arc_cost net inside = networks.arc_cost (network_by net) (flag_at inside)

-- what node v costs
abbrev pub node_cost : NumberedNetwork → List Bool → ℕ → ℕ
node_cost net inside = networks.node_cost (network_by net) (flag_at inside)

-- the cost of labels
abbrev pub cost_of : NumberedNetwork → Labels → ℕ
cost_of net labels = networks.cost (network_by net) (flag_at labels.inside)

-- what enters node v over arcs
abbrev pub amount_in : NumberedNetwork → List ℕ → ℕ → ℕ
amount_in net on_arc = networks.amount_in (network_by net) (slice_index on_arc)

-- what leaves node v over arcs
abbrev pub amount_out : NumberedNetwork → List ℕ → ℕ → ℕ
amount_out net on_arc = networks.amount_out (network_by net) (slice_index on_arc)

-- what node v adds to the value of a flow
abbrev pub node_value : NumberedNetwork → List ℕ → ℕ → ℕ
node_value net on_sink = networks.node_value (network_by net) (slice_index on_sink)

-- the value of a flow
abbrev pub value_of : NumberedNetwork → Flow → ℕ
value_of net flow = networks.value (network_by net) (slice_index flow.on_sink)

-- amounts, one an arc and one a node, that are a valid flow
pub record IsValidFlow (net : NumberedNetwork) (flow : Flow) : Type 0 where
  pub arc_count : length flow.on_arc ≡ net.arc_count
  pub node_count : length flow.on_sink ≡ net.node_count
  pub amounts : networks.IsValidFlow (network_by net) (slice_index flow.on_arc) (slice_index flow.on_sink)
  pub open amounts use *

-- a valid flow whose value no valid flow passes
pub record IsLargest (net : NumberedNetwork) (flow : Flow) : Type 0 where
  pub valid : IsValidFlow net flow
  pub largest : (other : Flow) → IsValidFlow net other → value_of net other ≤ value_of net flow

-- labels, one a node, with no fixed node inside
pub record IsAdmissible (net : NumberedNetwork) (labels : Labels) : Type 0 where
  pub count : length labels.inside ≡ net.node_count
  pub labelled : networks.IsAdmissible (network_by net) (flag_at labels.inside)
  pub open labelled use *

-- admissible labels that cost no more than any admissible labels
pub record IsLeastCost (net : NumberedNetwork) (labels : Labels) : Type 0 where
  pub count : length labels.inside ≡ net.node_count
  pub labelled : networks.IsLeastCost (network_by net) (flag_at labels.inside)
  pub open labelled use *

-- labels of the least cost that are contained in all labels of that cost
pub record IsLeastInside (net : NumberedNetwork) (labels : Labels) : Type 0 where
  pub count : length labels.inside ≡ net.node_count
  pub labelled : networks.IsLeastInside (network_by net) (flag_at labels.inside)
  pub open labelled use *
