-- What is wrong with labels and a flow of a network by numbers that is to show them best: the first fault, or none. The faults
-- are those of any network (Faults of flow_net).
--
--   IsFixedInside net labels v          node v is fixed and inside
--   IsOverCapacity net flow j           more flows on arc j than its capacity
--   sink_limit net v                    the most that may leave at node v's sink: its sink, or nothing where it is fixed
--   IsOverSink net flow v               more leaves at node v's sink than that
--   total_out net flow v                what leaves node v, over arcs and at its sink
--   IsUnbalanced net flow v             node v is free, and what enters it is not what leaves it
--   IsInsideAlone labels other v        node v is inside by labels and outside by others
--   IsNotLeast net labels v             node v is inside, and outside by the minimum cut with the smallest inside
--   AreWithinArcs net labels flow       no fixed node is inside, and no arc is over its capacity
--   AreWithinLimits net labels flow     nor is a sink over its limit
--   IsOptimalPair net labels flow       admissible labels that cost the value of a valid flow
--   IsVerdict net labels flow verdict   the first fault of labels and a flow by number, at its smallest node or arc, or
--                                       Yes: the flow is valid, its value is the cost of the labels, and no labels of
--                                       least cost have a smaller inside
use Rattle.std.specs.Prelude.{ℕ, ◌≡◌, ◌≢◌, length, slice_index}
use Rattle.flow_net.specs.declared.Net.{Net}
use Rattle.flow_net.specs.declared.Labels.{Labels}
use Rattle.flow_net.specs.declared.Flow.{Flow}
use Rattle.flow_net.specs.Nets.{arc_at, flag_at}
use Rattle.flow_net.specs.Faults as faults
use Rattle.flow_net.specs.Flows.{network_of, amount_in, value_of, cost_of, IsValidFlow, IsAdmissible, IsLeastInside}
use Rattle.flow_check.specs.declared.verdict.Verdict.{Verdict}
use Rattle.flow_check.specs.declared.verdict.Verdict.TheVariants.{Yes, FixedInside, OverCapacity, OverSink, Unbalanced}
use Rattle.flow_check.specs.declared.verdict.Verdict.TheVariants.{NotEqual, NotLeast}
use Rattle.flow_net.specs.Firsts.{IsFirst, NoneBelow}

-- node v is fixed and inside
abbrev pub IsFixedInside : Net → Labels → ℕ → Type 0
IsFixedInside net labels = faults.IsFixedInside (network_of net) (flag_at labels.inside)

-- more flows on arc j than its capacity
abbrev pub IsOverCapacity : Net → Flow → ℕ → Type 0
IsOverCapacity net flow = faults.IsOverCapacity (network_of net) (slice_index flow.on_arc)

-- the most that may leave at node v's sink
abbrev pub sink_limit : Net → ℕ → ℕ
sink_limit net = faults.sink_limit (network_of net)

-- more leaves at node v's sink than may
abbrev pub IsOverSink : Net → Flow → ℕ → Type 0
IsOverSink net flow = faults.IsOverSink (network_of net) (slice_index flow.on_sink)

-- what leaves node v, over arcs and at its sink
abbrev pub total_out : Net → Flow → ℕ → ℕ
total_out net flow = faults.total_out (network_of net) (slice_index flow.on_arc) (slice_index flow.on_sink)

-- node v is free, and what enters it is not what leaves it
abbrev pub IsUnbalanced : Net → Flow → ℕ → Type 0
IsUnbalanced net flow = faults.IsUnbalanced (network_of net) (slice_index flow.on_arc) (slice_index flow.on_sink)

-- node v is inside by labels and outside by others
abbrev pub IsInsideAlone : Labels → Labels → ℕ → Type 0
IsInsideAlone labels other = faults.IsInsideAlone (flag_at labels.inside) (flag_at other.inside)

-- node v is inside, and outside by the minimum cut with the smallest inside
abbrev pub IsNotLeast : Net → Labels → ℕ → Type 0
IsNotLeast net labels = faults.IsNotLeast (network_of net) (flag_at labels.inside)

-- no fixed node is inside, and no arc is over its capacity
abbrev pub AreWithinArcs : Net → Labels → Flow → Type 0
AreWithinArcs net labels flow = faults.AreWithinArcs (network_of net) (flag_at labels.inside) (slice_index flow.on_arc)

-- nor is a sink over its limit
abbrev pub AreWithinLimits : Net → Labels → Flow → Type 0
AreWithinLimits net labels flow =
    faults.AreWithinLimits (network_of net) (flag_at labels.inside) (slice_index flow.on_arc) (slice_index flow.on_sink)

-- admissible labels that cost the value of a valid flow
pub record IsOptimalPair (net : Net) (labels : Labels) (flow : Flow) : Type 0 where
  pub admissible : IsAdmissible net labels
  pub valid : IsValidFlow net flow
  pub equal : value_of net flow ≡ cost_of net labels

-- the first fault in the order of the cases, at its smallest node or arc and with its numbers; Yes is a valid flow whose value
-- is the cost of the minimum cut with the smallest inside
abbrev pub IsVerdict : Net → Labels → Flow → Verdict → Type 0
IsVerdict net labels flow Yes = IsValidFlow net flow × (value_of net flow ≡ cost_of net labels) × IsLeastInside net labels
IsVerdict net labels flow (FixedInside v) = IsFirst (length net.fixed) (IsFixedInside net labels) v
IsVerdict net labels flow (OverCapacity j amount cap) =
    NoneBelow (length net.fixed) (IsFixedInside net labels) × IsFirst (length net.arcs) (IsOverCapacity net flow) j
    × (amount ≡ slice_index flow.on_arc j) × (cap ≡ (arc_at net.arcs j).cap)
IsVerdict net labels flow (OverSink v amount cap) =
    AreWithinArcs net labels flow × IsFirst (length net.fixed) (IsOverSink net flow) v
    × (amount ≡ slice_index flow.on_sink v) × (cap ≡ sink_limit net v)
IsVerdict net labels flow (Unbalanced v entering leaving) =
    AreWithinLimits net labels flow × IsFirst (length net.fixed) (IsUnbalanced net flow) v
    × (entering ≡ amount_in net.arcs flow.on_arc v) × (leaving ≡ total_out net flow v)
IsVerdict net labels flow (NotEqual value cost) =
    IsAdmissible net labels × IsValidFlow net flow × (value ≡ value_of net flow) × (cost ≡ cost_of net labels) × (value ≢ cost)
IsVerdict net labels flow (NotLeast v) = IsOptimalPair net labels flow × IsFirst (length net.fixed) (IsNotLeast net labels) v
