-- What holds of every network.
--
--   ValueIsAtMostCost     the value of a valid flow is at most the cost of any admissible labels
--   EqualIsBest           a valid flow and admissible labels of equal value and cost are largest and least
use Rattle.std.specs.Prelude.{◌≡◌, ◌≤◌}
use Rattle.flow_net.specs.declared.Net.{Net}
use Rattle.flow_net.specs.declared.Labels.{Labels}
use Rattle.flow_net.specs.declared.Flow.{Flow}
use Rattle.flow_net.specs.Flows.{IsValidFlow, IsAdmissible, IsLargest, IsLeastCost, value_of, cost_of}

-- the value of a valid flow is at most the cost of any admissible labels
abbrev pub ValueIsAtMostCost : Type 0
ValueIsAtMostCost =
    (net : Net) (flow : Flow) (labels : Labels) → IsValidFlow net flow → IsAdmissible net labels →
    value_of net flow ≤ cost_of net labels

-- a valid flow whose value is the cost of some admissible labels is largest, and the labels are of the least cost
abbrev pub EqualIsBest : Type 0
EqualIsBest =
    (net : Net) (flow : Flow) (labels : Labels) → IsValidFlow net flow → IsAdmissible net labels →
    value_of net flow ≡ cost_of net labels → IsLargest net flow × IsLeastCost net labels
