-- Numbers that stand for nothing decide nothing.
--
-- A node that is not real adds its sink, which is 0, or nothing, and an arc that is not there its capacity, which is 0, or what
-- flows on it, which is no more. So all sums are those over the real nodes and the arcs that are there. Labels of these are labels of
-- all numbers with the rest outside, at the same cost, so what costs least among all numbers costs least among these. So too a flow of
-- these is one of all numbers with 0 elsewhere, of the same value, which is at most the cost of labels (`kept_at_most`).
use Rattle.std.proofs.Common.{ℕ, ◌≡◌, ◌<◌, ◌≤◌, ◌==◌, Bool, true, false, cond, ◌&&◌, sym, ◌∙◌, arith}
use Rattle.std.proofs.lemmas.Bool.{false≢true, true_from_ne_false}
use Rattle.flow_net.specs.Sums.{sum_below}
use Rattle.flow_net.specs.Networks.{Network, cost, value, IsValidFlow}
use Rattle.flow_net.specs.Networks.{IsAdmissible, IsLeastCost, IsLeastInside}
use Rattle.flow_net.specs.Numbered.{NumberedNetwork, network_by}
use Rattle.flow_net.specs.Paddings.{IsPadding, kept, IsJudgedAlike}
use Rattle.flow_net.proofs.Duality.{amounts_le_cost}
use Rattle.flow_net.proofs.SumLemmas.{sum_below-cong}

-- an amount that is 0 where a test fails is the same under the test
under : (b : Bool) (n : ℕ) → (b ≡ false → n ≡ 0) → n ≡ cond b n 0
under b n h = grind arith

same_if : (b : Bool) (m n : ℕ) → (b ≡ true → m ≡ n) → cond b m 0 ≡ cond b n 0
same_if b m n h = grind arith

and_first : (a b : Bool) → (a && b) ≡ true → a ≡ true
and_first a b e = grind (arith, false≢true)

and_keeps : (a b : Bool) → b ≡ true → (a && b) ≡ a
and_keeps a b e = grind arith

at_most_if : (b : Bool) (m n : ℕ) → (b ≡ true → m ≤ n) → cond b m 0 ≤ n
at_most_if b m n h = grind arith

zero_if : (b : Bool) (n : ℕ) → (b ≡ true → n ≡ 0) → cond b n 0 ≡ 0
zero_if b n h = grind arith

module _ (net : NumberedNetwork) (real there : ℕ → Bool) (padding : IsPadding net real there) where
  abbrev far : Network ℕ ℕ
  far = kept net real there

  -- sums over all nodes and all arcs
  node_sums : (f : ℕ → ℕ) → ((v : ℕ) → v < net.node_count → real v ≡ false → f v ≡ 0)
      → sum_below net.node_count f ≡ far.node_sum f
  node_sums f h = sum_below-cong net.node_count f (λ v. cond (real v) (f v) 0) (λ v l. under (real v) (f v) (h v l))

  arc_sums : (f : ℕ → ℕ) → ((j : ℕ) → j < net.arc_count → there j ≡ false → f j ≡ 0)
      → sum_below net.arc_count f ≡ far.arc_sum f
  arc_sums f h = sum_below-cong net.arc_count f (λ j. cond (there j) (f j) 0) (λ j l. under (there j) (f j) (h j l))

  cost_is : (inside : ℕ → Bool) → cost (network_by net) inside ≡ cost far inside
  cost_is inside = grind (arith, arc_sums, node_sums)

  value_is : (on_node : ℕ → ℕ) → value (network_by net) on_node ≡ value far on_node
  value_is on_node = grind (arith, node_sums)

  -- labels of real nodes, with the rest outside
  abbrev spread : (ℕ → Bool) → ℕ → Bool
  spread inside v = inside v && real v

  spread_cost : (inside : ℕ → Bool) → cost (network_by net) (spread inside) ≡ cost far inside
  spread_cost inside = grind (arith, cost_is, sum_below-cong, same_if, and_keeps)

  spread_admissible : (inside : ℕ → Bool) → IsAdmissible far inside → IsAdmissible (network_by net) (spread inside)
  spread_admissible inside admissible = grind arith

  kept_admissible : (inside : ℕ → Bool) → IsAdmissible (network_by net) inside → IsAdmissible far inside
  kept_admissible inside admissible = record { none_fixed = λ v is fixed. admissible.none_fixed v is.0 fixed }

  kept_least : (inside : ℕ → Bool) → IsLeastCost (network_by net) inside → IsLeastCost far inside
  kept_least inside is_least = record {
    admissible = kept_admissible inside is_least.admissible;
    least = λ other admissible. grind (arith, spread_admissible other admissible, cost_is, spread_cost other);
  }

  spread_least : (inside other : ℕ → Bool) → IsLeastCost (network_by net) inside → IsLeastCost far other
      → IsLeastCost (network_by net) (spread other)
  spread_least inside other is_least other_least = grind (arith, spread_admissible, kept_admissible, cost_is, spread_cost)

  kept_least_inside : (inside : ℕ → Bool) → IsLeastInside (network_by net) inside → IsLeastInside far inside
  kept_least_inside inside is_least = record {
    least_cost = kept_least inside is_least.least_cost;
    within = λ other other_least v is in_is.
        and_first (other v) (real v)
        (is_least.within (spread other) (spread_least inside other is_least.least_cost other_least) v is.0 in_is);
  }

  -- what enters or leaves a node over arcs that are not there is nothing
  none_flows : (on_arc on_node : ℕ → ℕ) → IsValidFlow (network_by net) on_arc on_node → (pick : ℕ → Bool) (j : ℕ)
      → j < net.arc_count → there j ≡ false → cond (pick j) (on_arc j) 0 ≡ 0
  none_flows on_arc on_node valid pick j l none = grind arith

  kept_valid : (on_arc on_node : ℕ → ℕ) → IsValidFlow (network_by net) on_arc on_node → IsValidFlow far on_arc on_node
  kept_valid on_arc on_node valid = grind (arith, arc_sums, none_flows)

  -- amounts of real nodes and of arcs that are there, with 0 elsewhere
  abbrev at_nodes : (ℕ → ℕ) → ℕ → ℕ
  at_nodes on_node v = cond (real v) (on_node v) 0

  abbrev on_arcs : (ℕ → ℕ) → ℕ → ℕ
  on_arcs on_arc j = cond (there j) (on_arc j) 0

  -- what they bring to a node, or take from it
  spread_flows : (on_arc : ℕ → ℕ) (pick : ℕ → Bool)
      → sum_below net.arc_count (λ j. cond (pick j) (on_arcs on_arc j) 0) ≡ far.arc_sum (λ j. cond (pick j) (on_arc j) 0)
  spread_flows on_arc pick = grind (arith, sum_below-cong)

  spread_valid : (on_arc on_node : ℕ → ℕ) → IsValidFlow far on_arc on_node
      → IsValidFlow (network_by net) (on_arcs on_arc) (at_nodes on_node)
  spread_valid on_arc on_node valid = record {
    within_cap = λ j l. at_most_if (there j) (on_arc j) (net.capacity j) (λ is. valid.within_cap j (l, is));
    within_sink = λ v l. at_most_if (real v) (on_node v) (net.sink v) (λ is. valid.within_sink v (l, is));
    none_fixed = λ v l fixed. zero_if (real v) (on_node v) (λ is. valid.none_fixed v (l, is) fixed);
    balanced = λ v l free.
        let is : real v ≡ true =
        true_from_ne_false (real v) (λ not_real. false≢true (sym free ∙ padding.fixed v l not_real)) in
        grind (arith, spread_flows on_arc (λ j. net.to j == v), spread_flows on_arc (λ j. net.from j == v));
  }

  spread_value : (on_node : ℕ → ℕ) → value (network_by net) (at_nodes on_node) ≡ value far on_node
  spread_value on_node = grind (arith, value_is, sum_below-cong)

  -- the value of a valid flow is at most the cost of admissible labels: so it is where both are spread over all numbers
  kept_at_most : (on_arc on_node : ℕ → ℕ) (inside : ℕ → Bool) → IsValidFlow far on_arc on_node → IsAdmissible far inside
      → value far on_node ≤ cost far inside
  kept_at_most on_arc on_node inside valid admissible =
      let most = amounts_le_cost net (on_arcs on_arc) (at_nodes on_node) (spread inside) (spread_valid on_arc on_node valid)
      (spread_admissible inside admissible) in
      omega (arith, most, spread_value on_node, spread_cost inside)

  pub padding_law : IsJudgedAlike (network_by net) (kept net real there)
  padding_law = record {
    cost_is = cost_is;
    least_inside = kept_least_inside;
    value_is = value_is;
    valid = kept_valid;
    at_most = kept_at_most;
  }
