-- Networks whose nodes and arcs have numbers: the nodes are the numbers below one, the arcs those below another.
--
--   NumberedNetwork    a network whose nodes and arcs are the numbers below two limits: ends and capacity of each arc,
--                      which nodes are fixed, their sinks. Its properties: ends are nodes, an arc with a capacity joins
--                      two nodes, amounts are at most 2^60
--   network_by net     a network by numbers as a `Network`
--
-- An arc on which nothing can flow may begin and end at one node, so a number may stand for an arc that is none. A number
-- stands for a node that is none where it is fixed, takes nothing and has no such arc.
use Rattle.std.specs.Prelude.{ℕ, ◌≢◌, ◌<◌, ◌≤◌, ◌==◌, ◌^◌, Bool}
use Rattle.flow_net.specs.Networks.{Network}
use Rattle.flow_net.specs.Sums.{sum_below}

-- how many nodes and arcs; for each arc the node that it leaves, the one that it enters and its capacity; for each node whether
-- it is fixed, and its sink. Arcs join nodes, those with a capacity distinct ones, and amounts are at most 2^60
pub record NumberedNetwork : Type 0 where
  pub node_count : ℕ
  pub arc_count : ℕ
  pub from : ℕ → ℕ
  pub to : ℕ → ℕ
  pub capacity : ℕ → ℕ
  pub is_fixed : ℕ → Bool
  pub sink : ℕ → ℕ
  pub from_in : (j : ℕ) → j < arc_count → from j < node_count
  pub to_in : (j : ℕ) → j < arc_count → to j < node_count
  pub distinct : (j : ℕ) → j < arc_count → 1 ≤ capacity j → from j ≢ to j
  pub capacity_fits : (j : ℕ) → j < arc_count → capacity j ≤ 2 ^ 60
  pub sink_fits : (v : ℕ) → v < node_count → sink v ≤ 2 ^ 60

-- its nodes, its arcs, and sums over them
abbrev pub network_by : NumberedNetwork → Network ℕ ℕ
network_by net =
    record {
      HasNode = λ v. v < net.node_count;
      HasArc = λ j. j < net.arc_count;
      node_sum = sum_below net.node_count;
      arc_sum = sum_below net.arc_count;
      from = net.from;
      to = net.to;
      is_same = λ v w. v == w;
      capacity = net.capacity;
      is_fixed = net.is_fixed;
      sink = net.sink;
    }
