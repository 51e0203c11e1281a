-- What is wrong with labels and a flow of a network that are to be shown best.
--
--   IsFixedInside net inside v             a fault: a node is fixed and inside
--   IsOverCapacity net on_arc a            a fault: more flows on an arc than its capacity
--   sink_limit net v                       the most that may leave at the node's sink: its sink, or nothing where it is fixed
--   IsOverSink net on_node v               a fault: more leaves at a node's sink than it takes (`sink_limit`: nothing
--                                          at a fixed node)
--   total_out net on_arc on_node v         what leaves the node, over arcs and at its sink
--   IsUnbalanced net on_arc on_node v      a fault: a node is free, and what enters it is not what leaves it over arcs
--                                          and at its sink (`total_out`)
--   IsInsideAlone inside other v           the node is inside by labels and outside by others
--   IsNotLeast net inside v                a fault: a node is inside, but outside in the minimum cut with the smallest
--                                          inside
--   AreWithinArcs net inside on_arc        there is no fault `IsFixedInside` and no `IsOverCapacity`
--   AreWithinLimits net ..                 nor any `IsOverSink`
use Rattle.std.specs.Prelude.{ℕ, ◌≡◌, ◌≢◌, ◌<◌, ◌+◌, Bool, true, false, if◌then◌else◌}
use Rattle.flow_net.specs.Networks.{Network, amount_in, amount_out, IsLeastInside}

-- the node is fixed and inside
abbrev pub IsFixedInside : {Node Arc : Type 0} → Network Node Arc → (Node → Bool) → Node → Type 0
IsFixedInside net inside v = (net.is_fixed v ≡ true) × (inside v ≡ true)

-- more flows on the arc than its capacity
abbrev pub IsOverCapacity : {Node Arc : Type 0} → Network Node Arc → (Arc → ℕ) → Arc → Type 0
IsOverCapacity net on_arc a = net.capacity a < on_arc a

-- the most that may leave at the node's sink
abbrev pub sink_limit : {Node Arc : Type 0} → Network Node Arc → Node → ℕ
sink_limit net v = if net.is_fixed v then 0 else net.sink v

-- more leaves at the node's sink than may
abbrev pub IsOverSink : {Node Arc : Type 0} → Network Node Arc → (Node → ℕ) → Node → Type 0
IsOverSink net on_node v = sink_limit net v < on_node v

-- what leaves the node, over arcs and at its sink
abbrev pub total_out : {Node Arc : Type 0} → Network Node Arc → (Arc → ℕ) → (Node → ℕ) → Node → ℕ
total_out net on_arc on_node v = amount_out net on_arc v + on_node v

-- the node is free, and what enters it is not what leaves it
abbrev pub IsUnbalanced : {Node Arc : Type 0} → Network Node Arc → (Arc → ℕ) → (Node → ℕ) → Node → Type 0
IsUnbalanced net on_arc on_node v = (net.is_fixed v ≡ false) × (amount_in net on_arc v ≢ total_out net on_arc on_node v)

-- the node is inside by labels and outside by others
abbrev pub IsInsideAlone : {Node : Type 0} → (Node → Bool) → (Node → Bool) → Node → Type 0
IsInsideAlone inside other v = (inside v ≡ true) × (other v ≡ false)

-- the node is inside, and outside by the minimum cut with the smallest inside
abbrev pub IsNotLeast : {Node Arc : Type 0} → Network Node Arc → (Node → Bool) → Node → Type 0
IsNotLeast {Node} net inside v = (least : Node → Bool) → IsLeastInside net least → IsInsideAlone inside least v

-- no fixed node is inside, and no arc is over its capacity
pub record AreWithinArcs {Node Arc : Type 0} (net : Network Node Arc) (inside : Node → Bool) (on_arc : Arc → ℕ) : Type 0 where
  pub none_fixed : (v : Node) → net.HasNode v → ¬ IsFixedInside net inside v
  pub within_caps : (a : Arc) → net.HasArc a → ¬ IsOverCapacity net on_arc a

-- nor is a sink over its limit
pub record AreWithinLimits {Node Arc : Type 0} (net : Network Node Arc) (inside : Node → Bool) (on_arc : Arc → ℕ)
    (on_node : Node → ℕ) : Type 0 where
  pub within_arcs : AreWithinArcs net inside on_arc
  pub within_sinks : (v : Node) → net.HasNode v → ¬ IsOverSink net on_node v
