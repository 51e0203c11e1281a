-- The network of a Net: labels, what they cost, flows, their values, and which of them are best, all as of any network by
-- numbers (`NumberedFlows`).
--
--   network_with    the network of these flags, sinks and arcs
--   numbered_of net, network_of net   a `Net` as a `NumberedNetwork`, and as a `Network`. Labels and flows are lists
--   arcs_alone      arcs, whatever their nodes are
--   cost_of net labels   the cost of labels in a network by numbers
--   amount_in       the sum of the amounts on the arcs that enter a node
--   value_of        the value of a flow in a network by numbers
--   IsValidFlow     within capacities and sinks, balanced at free nodes, nothing at the sinks of fixed nodes
--   IsLargest       a valid flow whose value no valid flow passes
--   IsAdmissible    no fixed node is inside
--   IsLeastCost     no admissible labels cost less
--   IsLeastInside   the inside is contained in that of all labels of that cost
use Rattle.std.specs.Prelude.{ℕ, ◌<◌, ◌==◌, Bool, List, [], length, slice_index}
use Rattle.std.proofs.Common.{sym, subst}
use Rattle.flow_net.specs.declared.Arc.{Arc}
use Rattle.flow_net.specs.declared.Net.{Net}
use Rattle.flow_net.specs.declared.Labels.{Labels}
use Rattle.flow_net.specs.declared.Flow.{Flow}
use Rattle.flow_net.specs.Nets.{arc_at, flag_at}
use Rattle.flow_net.specs.Networks as networks
use Rattle.flow_net.specs.Networks.{Network}
use Rattle.flow_net.specs.Numbered.{NumberedNetwork, network_by}
use Rattle.flow_net.specs.NumberedFlows as numbered
use Rattle.flow_net.specs.Sums.{sum_below}

-- the network of these flags, sinks and arcs
abbrev pub network_with : List Bool → List ℕ → List Arc → Network ℕ ℕ
network_with fixed sink arcs =
    record {
      HasNode = λ v. v < length fixed;
      HasArc = λ j. j < length arcs;
      node_sum = sum_below (length fixed);
      arc_sum = sum_below (length arcs);
      from = λ j. (arc_at arcs j).from;
      to = λ j. (arc_at arcs j).to;
      is_same = λ v w. v == w;
      capacity = λ j. (arc_at arcs j).cap;
      is_fixed = flag_at fixed;
      sink = slice_index sink;
    }

-- there is a sink at each node
pub sink_there : (net : Net) (v : ℕ) → v < length net.fixed → v < length net.sink
sink_there net v l = subst (λ (n : ℕ). v < n) (sym net.valid.sink_count) l

-- a Net as a network by numbers
abbrev pub numbered_of : Net → NumberedNetwork
numbered_of net =
    record {
      node_count = length net.fixed;
      arc_count = length net.arcs;
      from = λ j. (arc_at net.arcs j).from;
      to = λ j. (arc_at net.arcs j).to;
      capacity = λ j. (arc_at net.arcs j).cap;
      is_fixed = flag_at net.fixed;
      sink = slice_index net.sink;
      from_in = λ j l. (net.valid.valid_arcs j l).from_in;
      to_in = λ j l. (net.valid.valid_arcs j l).to_in;
      distinct = λ j l _. (net.valid.valid_arcs j l).distinct;
      capacity_fits = λ j l. (net.valid.valid_arcs j l).cap_fits;
      sink_fits = λ v l. net.valid.sinks_fit v (sink_there net v l);
    }

-- the network of a Net
abbrev pub network_of : Net → Network ℕ ℕ
network_of net = network_by (numbered_of net)

-- arcs, whatever their nodes are
abbrev pub arcs_alone : List Arc → Network ℕ ℕ
arcs_alone = network_with [] []

-- the cost of labels
abbrev pub cost_of : Net → Labels → ℕ
cost_of net labels = networks.cost (network_of net) (flag_at labels.inside)

-- what enters node v over arcs
abbrev pub amount_in : List Arc → List ℕ → ℕ → ℕ
amount_in arcs on_arc = networks.amount_in (arcs_alone arcs) (slice_index on_arc)

-- the value of a flow
abbrev pub value_of : Net → Flow → ℕ
value_of net flow = networks.value (network_of net) (slice_index flow.on_sink)

-- amounts, one an arc and one a node, that are a valid flow
abbrev pub IsValidFlow : Net → Flow → Type 0
IsValidFlow net = numbered.IsValidFlow (numbered_of net)

-- a valid flow whose value no valid flow passes
abbrev pub IsLargest : Net → Flow → Type 0
IsLargest net = numbered.IsLargest (numbered_of net)

-- labels, one a node, with no fixed node inside
abbrev pub IsAdmissible : Net → Labels → Type 0
IsAdmissible net = numbered.IsAdmissible (numbered_of net)

-- admissible labels that cost no more than any admissible labels
abbrev pub IsLeastCost : Net → Labels → Type 0
IsLeastCost net = numbered.IsLeastCost (numbered_of net)

-- labels of the least cost that are contained in all labels of that cost
abbrev pub IsLeastInside : Net → Labels → Type 0
IsLeastInside net = numbered.IsLeastInside (numbered_of net)
