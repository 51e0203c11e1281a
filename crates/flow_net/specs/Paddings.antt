-- Networks by numbers, some standing for nothing.
--
--   IsPadding net real there    all nodes but the real ones are fixed and take nothing, and all arcs but the real ones
--                               have no capacity
--   kept net real there         the network without these nodes and arcs
--   IsJudgedAlike net far       labels with the smallest inside and valid flows of one network are those of the other,
--                               at the same cost and value. In the other no valid flow has a larger value than
--                               admissible labels cost
use Rattle.std.specs.Prelude.{ℕ, ◌≡◌, ◌<◌, ◌≤◌, ◌==◌, Bool, true, false, if◌then◌else◌}
use Rattle.flow_net.specs.Networks.{Network, cost, value, IsAdmissible, IsValidFlow, IsLeastInside}
use Rattle.flow_net.specs.Numbered.{NumberedNetwork}
use Rattle.flow_net.specs.Sums.{sum_below}

-- the others are fixed and take nothing, or have no capacity; arcs that are there join real nodes
pub record IsPadding (net : NumberedNetwork) (real there : ℕ → Bool) : Type 0 where
  pub fixed : (v : ℕ) → v < net.node_count → real v ≡ false → net.is_fixed v ≡ true
  pub no_sink : (v : ℕ) → v < net.node_count → real v ≡ false → net.sink v ≡ 0
  pub no_capacity : (j : ℕ) → j < net.arc_count → there j ≡ false → net.capacity j ≡ 0
  pub from_real : (j : ℕ) → j < net.arc_count → there j ≡ true → real (net.from j) ≡ true
  pub to_real : (j : ℕ) → j < net.arc_count → there j ≡ true → real (net.to j) ≡ true

-- the real nodes and the arcs that are there
abbrev pub kept : NumberedNetwork → (real there : ℕ → Bool) → Network ℕ ℕ
kept net real there =
    record {
      HasNode = λ v. (v < net.node_count) × (real v ≡ true);
      HasArc = λ j. (j < net.arc_count) × (there j ≡ true);
      node_sum = λ amount. sum_below net.node_count (λ v. if real v then amount v else 0);
      arc_sum = λ amount. sum_below net.arc_count (λ j. if there j then amount j else 0);
      from = net.from;
      to = net.to;
      is_same = λ v w. v == w;
      capacity = net.capacity;
      is_fixed = net.is_fixed;
      sink = net.sink;
    }

-- what is shown of the one holds of the other, where the value of a valid flow is at most the cost of admissible labels
pub record IsJudgedAlike (net far : Network ℕ ℕ) : Type 0 where
  pub cost_is : (inside : ℕ → Bool) → cost net inside ≡ cost far inside
  pub least_inside : (inside : ℕ → Bool) → IsLeastInside net inside → IsLeastInside far inside
  pub value_is : (on_node : ℕ → ℕ) → value net on_node ≡ value far on_node
  pub valid : (on_arc on_node : ℕ → ℕ) → IsValidFlow net on_arc on_node → IsValidFlow far on_arc on_node
  pub at_most : (on_arc on_node : ℕ → ℕ) (inside : ℕ → Bool) → IsValidFlow far on_arc on_node → IsAdmissible far inside
      → value far on_node ≤ cost far inside
