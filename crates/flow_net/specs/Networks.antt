-- Networks over any kinds of nodes and arcs. Labels are a test of nodes, and a flow is an amount on each arc and one at each
-- node. A network of numbers (`Flows`) is one, and a network of cells and directed facets another.
--
--   Network                             a network over any kinds of nodes and arcs: which ones there are, the sum of a
--                                       number over them, the ends of an arc, whether two nodes are equal, capacities,
--                                       fixed nodes, sinks. Labels are a test of nodes. A flow is an amount on each arc
--                                       and one at each node
--   arc_cost net inside a               what an arc adds to the cost of labels
--   node_cost net inside v              what a node adds to it
--   cost net inside                     the capacities of arcs from outside to inside, plus the sinks of outside nodes
--   amount_in net on_arc v              the sum of the amounts on the arcs that enter a node
--   amount_out net on_arc v             the sum of the amounts on the arcs that leave a node
--   node_value net on_node v            what a node adds to the value of a flow
--   value net on_node                   the amounts at free nodes' sinks, plus the sinks of fixed nodes
--   IsValidFlow net on_arc on_node      within capacities and sinks, balanced at free nodes, nothing at the sinks of
--                                       fixed nodes
--   IsAdmissible net inside             no fixed node is inside
--   IsLeastCost net inside              no admissible labels cost less
--   IsLeastInside net inside            the inside is contained in that of all labels of that cost
--   AgreeAsNetworks net other           in both networks labels have the same cost, and are admissible, of least cost
--                                       and with the smallest inside alike; flows have the same value and are valid
--                                       alike
use Rattle.std.specs.Prelude.{ℕ, ◌≡◌, ◌≤◌, ◌+◌, ◌↔◌, ◌&&◌, not, Bool, true, false, if◌then◌else◌}

-- A directed graph, with the sums of any function over all nodes and over all arcs. Each arc has a capacity. Each node
-- has a number called its sink: what the node costs if it is outside. (Other texts call this the capacity of the node's
-- arc into one common sink.) Some nodes are fixed outside.
pub record Network (Node Arc : Type 0) : Type 1 where
  pub HasNode : Node → Type 0
  pub HasArc : Arc → Type 0
  pub node_sum : (Node → ℕ) → ℕ
  pub arc_sum : (Arc → ℕ) → ℕ
  pub from : Arc → Node
  pub to : Arc → Node
  pub is_same : Node → Node → Bool
  pub capacity : Arc → ℕ
  pub is_fixed : Node → Bool
  pub sink : Node → ℕ

-- An arc costs its capacity if it leads from an outside node to an inside node, else nothing.
abbrev pub arc_cost : {Node Arc : Type 0} → Network Node Arc → (Node → Bool) → Arc → ℕ
arc_cost net inside a = if not (inside (net.from a)) && inside (net.to a) then net.capacity a else 0

-- A node costs its sink if it is outside, else nothing.
abbrev pub node_cost : {Node Arc : Type 0} → Network Node Arc → (Node → Bool) → Node → ℕ
node_cost net inside v = if inside v then 0 else net.sink v

-- The energy of a labelling: the sum of the costs of all arcs and of all nodes.
abbrev pub cost : {Node Arc : Type 0} → Network Node Arc → (Node → Bool) → ℕ
cost net inside = net.arc_sum (arc_cost net inside) + net.node_sum (node_cost net inside)

-- what enters a node over arcs
abbrev pub amount_in : {Node Arc : Type 0} → Network Node Arc → (Arc → ℕ) → Node → ℕ
amount_in net on_arc v = net.arc_sum (λ a. if net.is_same (net.to a) v then on_arc a else 0)

-- what leaves a node over arcs
abbrev pub amount_out : {Node Arc : Type 0} → Network Node Arc → (Arc → ℕ) → Node → ℕ
amount_out net on_arc v = net.arc_sum (λ a. if net.is_same (net.from a) v then on_arc a else 0)

-- what a node adds to the value of a flow: its sink where it is fixed, and else the amount at its sink
abbrev pub node_value : {Node Arc : Type 0} → Network Node Arc → (Node → ℕ) → Node → ℕ
node_value net on_node v = if net.is_fixed v then net.sink v else on_node v

-- the value of a flow: the amounts at the sinks of free nodes, and the sinks of fixed nodes
abbrev pub value : {Node Arc : Type 0} → Network Node Arc → (Node → ℕ) → ℕ
value net on_node = net.node_sum (node_value net on_node)

-- a flow that keeps within capacities and sinks, is 0 at the sinks of fixed nodes, and is balanced at free nodes
pub record IsValidFlow {Node Arc : Type 0} (net : Network Node Arc) (on_arc : Arc → ℕ) (on_node : Node → ℕ) : Type 0 where
  pub within_cap : (a : Arc) → net.HasArc a → on_arc a ≤ net.capacity a
  pub within_sink : (v : Node) → net.HasNode v → on_node v ≤ net.sink v
  pub none_fixed : (v : Node) → net.HasNode v → net.is_fixed v ≡ true → on_node v ≡ 0
  pub balanced :
      (v : Node) → net.HasNode v → net.is_fixed v ≡ false → amount_in net on_arc v ≡ amount_out net on_arc v + on_node v

-- The labelling has no fixed node inside.
pub record IsAdmissible {Node Arc : Type 0} (net : Network Node Arc) (inside : Node → Bool) : Type 0 where
  pub none_fixed : (v : Node) → net.HasNode v → net.is_fixed v ≡ true → inside v ≡ false

-- The labelling is admissible, and no admissible labelling costs less: it is a minimum cut.
pub record IsLeastCost {Node Arc : Type 0} (net : Network Node Arc) (inside : Node → Bool) : Type 0 where
  pub admissible : IsAdmissible net inside
  pub least : (other : Node → Bool) → IsAdmissible net other → cost net inside ≤ cost net other

-- The minimum cut with the smallest inside. It costs least, and each of its inside nodes is inside in every labelling
-- of the same cost. It is unique on the nodes.
pub record IsLeastInside {Node Arc : Type 0} (net : Network Node Arc) (inside : Node → Bool) : Type 0 where
  pub least_cost : IsLeastCost net inside
  pub within : (other : Node → Bool) → IsLeastCost net other → (v : Node) → net.HasNode v → inside v ≡ true → other v ≡ true

-- labels cost the same, and are admissible, minimum cuts and the one with the smallest inside together; flows have the same
-- value, and are valid together
pub record AgreeAsNetworks {Node Arc : Type 0} (net other : Network Node Arc) : Type 0 where
  pub cost_is : (inside : Node → Bool) → cost net inside ≡ cost other inside
  pub admissible : (inside : Node → Bool) → IsAdmissible net inside ↔ IsAdmissible other inside
  pub least_cost : (inside : Node → Bool) → IsLeastCost net inside ↔ IsLeastCost other inside
  pub least_inside : (inside : Node → Bool) → IsLeastInside net inside ↔ IsLeastInside other inside
  pub value_is : (on_node : Node → ℕ) → value net on_node ≡ value other on_node
  pub valid : (on_arc : Arc → ℕ) (on_node : Node → ℕ) → IsValidFlow net on_arc on_node ↔ IsValidFlow other on_arc on_node
