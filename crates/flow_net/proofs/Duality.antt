-- The value of a valid flow is at most the cost of admissible labels, and equal to it just where the labels are tight.
--
-- No fixed node is inside, so each inside node is balanced. Summed over them: what arcs bring to inside nodes is what arcs
-- take from inside nodes and what the sinks of inside nodes take (`inside_balance`). Arc by arc, what comes to the inside is
-- at most what is taken from the inside and, if the arc leads in from outside, its capacity (`arc_le`). Node by node, what
-- counts for the value is at most what the sink of an inside node takes and what an outside node costs (`node_le`). The sums
-- give `amounts_le_cost`, and of lists `value_le_cost`. At tight labels each of these is an equality (`value_is_cost`). Conversely, where the cost is no more
-- than the value, no summand can be less than its bound, so the labels are tight (`tight_from_cost`). Where the two are equal,
-- no flow is worth more and no labels cost less (`equal_is_best`).
use Rattle.std.proofs.Common.{ℕ, ◌≡◌, ◌<◌, ◌≤◌, ◌+◌, Bool, true, false, cond, not, ◌&&◌, get_or, slice_index, arith}
use Rattle.std.proofs.lemmas.Bool.{false≢true, both_ways, false_from_ne_true}
use Rattle.flow_net.specs.Sums.{sum_below}
use Rattle.flow_net.specs.Networks.{IsAdmissible, IsValidFlow as AreValidAmounts, amount_in, amount_out, arc_cost, node_cost, cost}
use Rattle.flow_net.specs.Networks.{node_value, value}
use Rattle.flow_net.specs.Numbered.{NumberedNetwork, network_by}
use Rattle.flow_net.specs.NumberedFlows.{IsValidFlow, IsAdmissible as IsAdmissibleList, IsLargest, IsLeastCost, value_of, cost_of}
use Rattle.flow_net.specs.declared.Labels.{Labels}
use Rattle.flow_net.specs.declared.Flow.{Flow}
use Rattle.flow_net.proofs.SumLemmas.{sum_below-le, sum_below-add, sum_below-cong, sum_below-ends, sum_below-tight}

-- what the sinks of inside nodes take
abbrev inside_sinks : (ℕ → Bool) → (on_node : ℕ → ℕ) → ℕ → ℕ
inside_sinks inside on_node v = cond (inside v) (on_node v) 0

-- what arc j brings to inside nodes
abbrev to_inside : NumberedNetwork → (on_arc : ℕ → ℕ) → (ℕ → Bool) → ℕ → ℕ
to_inside net on_arc inside j = cond (inside (net.to j)) (on_arc j) 0

-- what arc j takes from inside nodes
abbrev from_inside : NumberedNetwork → (on_arc : ℕ → ℕ) → (ℕ → Bool) → ℕ → ℕ
from_inside net on_arc inside j = cond (inside (net.from j)) (on_arc j) 0

-- an arc by where its ends are
cut_if : (s t : Bool) (f c : ℕ) → f ≤ c → cond t f 0 ≤ cond s f 0 + cond (not s && t) c 0
cut_if s t f c h = grind arith

-- amounts by number, however they are given
module _ (net : NumberedNetwork) (on_arc on_node : ℕ → ℕ) (inside : ℕ → Bool) (valid : AreValidAmounts (network_by net) on_arc on_node) where
  -- arc by arc, what comes in is what goes out and what the cut lets through
  arc_le : (j : ℕ) → j < net.arc_count
      → to_inside net on_arc inside j ≤ from_inside net on_arc inside j + arc_cost (network_by net) inside j
  arc_le j l = cut_if (inside (net.from j)) (inside (net.to j)) (on_arc j) (net.capacity j) (valid.within_cap j l)

  module _ (admissible : IsAdmissible (network_by net) inside) where
    -- at one node
    at_node : (v : ℕ) → v < net.node_count
        → cond (inside v) (amount_in (network_by net) on_arc v) 0
        ≡ cond (inside v) (amount_out (network_by net) on_arc v) 0 + inside_sinks inside on_node v
    at_node v l = grind (arith, false_from_ne_true, both_ways)

    -- what inside nodes get is what they give
    inside_balance : sum_below net.arc_count (to_inside net on_arc inside)
        ≡ sum_below net.arc_count (from_inside net on_arc inside) + sum_below net.node_count (inside_sinks inside on_node)
    inside_balance =
        let n : ℕ = net.node_count in
        let m : ℕ = net.arc_count in
        let ends_in = sum_below-ends n m net.to on_arc inside (λ j l. net.to_in j l) in
        let ends_out = sum_below-ends n m net.from on_arc inside (λ j l. net.from_in j l) in
        let at_nodes = sum_below-cong n
        (λ v. cond (inside v) (amount_in (network_by net) on_arc v) 0)
        (λ v. cond (inside v) (amount_out (network_by net) on_arc v) 0 + inside_sinks inside on_node v)
        at_node in
        let both =
        sum_below-add n (λ v. cond (inside v) (amount_out (network_by net) on_arc v) 0) (inside_sinks inside on_node) in
        omega (arith, ends_in, ends_out, at_nodes, both)

    -- node by node
    node_le : (v : ℕ) → v < net.node_count
        → node_value (network_by net) on_node v ≤ inside_sinks inside on_node v + node_cost (network_by net) inside v
    node_le v l = grind arith

    -- the value of a valid flow is at most the cost of admissible labels
    pub amounts_le_cost : value (network_by net) on_node ≤ cost (network_by net) inside
    amounts_le_cost =
        let n : ℕ = net.node_count in
        let m : ℕ = net.arc_count in
        let nodes = sum_below-le n (node_value (network_by net) on_node)
        (λ v. inside_sinks inside on_node v + node_cost (network_by net) inside v) node_le in
        let nodes_add = sum_below-add n (inside_sinks inside on_node) (node_cost (network_by net) inside) in
        let along = sum_below-le m (to_inside net on_arc inside)
        (λ j. from_inside net on_arc inside j + arc_cost (network_by net) inside j) arc_le in
        let along_add = sum_below-add m (from_inside net on_arc inside) (arc_cost (network_by net) inside) in
        omega (arith, nodes, nodes_add, along, along_add, inside_balance)

-- of a list of amounts
pub value_le_cost : (net : NumberedNetwork) (flow : Flow) (inside : ℕ → Bool) →
    IsValidFlow net flow → IsAdmissible (network_by net) inside → value_of net flow ≤ cost (network_by net) inside
value_le_cost net flow inside valid admissible = grind (arith, amounts_le_cost)

-- no room is left where labels cut: arcs into the inside are full, arcs out of it are empty, outside sinks are full
pub record IsTight (net : NumberedNetwork) (flow : Flow) (inside : ℕ → Bool) : Type 0 where
  pub saturated :
      (j : ℕ) → j < net.arc_count → inside (net.from j) ≡ false →
      inside (net.to j) ≡ true → get_or flow.on_arc j 0 ≡ (net.capacity j)
  pub unused :
      (j : ℕ) → j < net.arc_count → inside (net.from j) ≡ true →
      inside (net.to j) ≡ false → get_or flow.on_arc j 0 ≡ 0
  pub full :
      (v : ℕ) → v < net.node_count → inside v ≡ false → net.is_fixed v ≡ false →
      get_or flow.on_sink v 0 ≡ net.sink v

-- an arc at which nothing is left over
cut_is : (s t : Bool) (f c : ℕ) → (s ≡ false → t ≡ true → f ≡ c) → (s ≡ true → t ≡ false → f ≡ 0) →
    cond t f 0 ≡ cond s f 0 + cond (not s && t) c 0
cut_is s t f c h k = grind arith

-- a node at which nothing is left over
node_is : (b x : Bool) (taken sink : ℕ) → (x ≡ true → b ≡ false) → (b ≡ false → x ≡ false → taken ≡ sink) →
    cond x sink taken ≡ cond b taken 0 + cond b 0 sink
node_is b x taken sink h l = grind (arith, false≢true)

-- tight labels cost what the flow is worth
pub value_is_cost : (net : NumberedNetwork) (flow : Flow) (inside : ℕ → Bool) →
    IsValidFlow net flow → IsAdmissible (network_by net) inside → IsTight net flow inside →
    value_of net flow ≡ cost (network_by net) inside
value_is_cost net flow inside valid admissible tight =
    let on_arc : ℕ → ℕ = slice_index flow.on_arc in
    let on_node : ℕ → ℕ = slice_index flow.on_sink in
    let n : ℕ = net.node_count in
    let m : ℕ = net.arc_count in
    let nodes = sum_below-cong n (node_value (network_by net) on_node)
    (λ v. inside_sinks inside on_node v + node_cost (network_by net) inside v)
    (λ v l. node_is (inside v) (net.is_fixed v) (on_node v) (net.sink v)
    (admissible.none_fixed v l) (tight.full v l)) in
    let nodes_add = sum_below-add n (inside_sinks inside on_node) (node_cost (network_by net) inside) in
    let along = sum_below-cong m (to_inside net on_arc inside)
    (λ j. from_inside net on_arc inside j + arc_cost (network_by net) inside j)
    (λ j l. cut_is (inside (net.from j)) (inside (net.to j))
    (on_arc j) (net.capacity j) (tight.saturated j l) (tight.unused j l)) in
    let along_add = sum_below-add m (from_inside net on_arc inside) (arc_cost (network_by net) inside) in
    omega (arith, nodes, nodes_add, along, along_add, inside_balance net on_arc on_node inside valid.amounts admissible)

-- labels that cost what the flow is worth are tight
pub tight_from_cost : (net : NumberedNetwork) (flow : Flow) (inside : ℕ → Bool) →
    IsValidFlow net flow → IsAdmissible (network_by net) inside → cost (network_by net) inside ≤ value_of net flow →
    IsTight net flow inside
tight_from_cost net flow inside valid admissible meets =
    let on_arc : ℕ → ℕ = slice_index flow.on_arc in
    let on_node : ℕ → ℕ = slice_index flow.on_sink in
    let n : ℕ = net.node_count in
    let m : ℕ = net.arc_count in
    let right_node : ℕ → ℕ = λ v. inside_sinks inside on_node v + node_cost (network_by net) inside v in
    let right_arc : ℕ → ℕ = λ j. from_inside net on_arc inside j + arc_cost (network_by net) inside j in
    let nodes = sum_below-le n (node_value (network_by net) on_node) right_node
    (node_le net on_arc on_node inside valid.amounts admissible) in
    let nodes_add = sum_below-add n (inside_sinks inside on_node) (node_cost (network_by net) inside) in
    let along = sum_below-le m (to_inside net on_arc inside) right_arc (arc_le net on_arc on_node inside valid.amounts) in
    let along_add = sum_below-add m (from_inside net on_arc inside) (arc_cost (network_by net) inside) in
    let balance = inside_balance net on_arc on_node inside valid.amounts admissible in
    let node_sums : sum_below n right_node ≤ sum_below n (node_value (network_by net) on_node) = grind arith in
    let arc_sums : sum_below m right_arc ≤ sum_below m (to_inside net on_arc inside) = grind arith in
    let at_arc =
    sum_below-tight m (to_inside net on_arc inside) right_arc (arc_le net on_arc on_node inside valid.amounts) arc_sums in
    let at_node = sum_below-tight n (node_value (network_by net) on_node) right_node
    (node_le net on_arc on_node inside valid.amounts admissible) node_sums in
    grind (arith, at_node)

-- equal value and cost are largest and least
pub equal_is_best : (net : NumberedNetwork) (flow : Flow) (labels : Labels) → IsValidFlow net flow → IsAdmissibleList net labels →
    value_of net flow ≡ cost_of net labels → IsLargest net flow × IsLeastCost net labels
equal_is_best net flow labels valid admissible equal = grind (arith, value_le_cost)
