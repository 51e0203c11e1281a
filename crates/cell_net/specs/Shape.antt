-- Linked cells and visibility weights as a network by numbers.
--
--   numbered_with slots crossed behind fixed settings shape
--                      the network by numbers: a node for each number that has an entry in the list `fixed`. A node is
--                      fixed if this entry says so, or if its number has no cell. Each node has four arcs, to the
--                      adjacent cells. An arc that does not lead to a free neighbor has no capacity
use Rattle.std.specs.Prelude.{ℕ, ◌*◌, ◌/◌, length, List, Bool, Option}
use Rattle.flow_net.specs.Numbered.{NumberedNetwork}
use Rattle.flow_net.specs.declared.votes.Settings.{Settings}
use Rattle.tetra_store.specs.declared.link.Cell.{Cell}
use Rattle.cell_net.specs.Arcs.{IsShape, neighbor_or_self, capacity_of, is_outside, sink_of}

-- a node for each number that has a flag, four arcs a node
abbrev pub numbered_with : (slots : List (Option Cell)) (crossed behind : List ℕ) (fixed : List Bool) (settings : Settings)
    → IsShape slots crossed behind fixed settings → NumberedNetwork
numbered_with slots crossed behind fixed settings shape =
    record {
      node_count = length fixed;
      arc_count = 4 * length fixed;
      from = λ j. j / 4;
      to = neighbor_or_self slots;
      capacity = capacity_of slots crossed fixed settings;
      is_fixed = is_outside slots fixed;
      sink = sink_of slots behind settings;
      from_in = shape.tails_in;
      to_in = shape.heads_in;
      distinct = λ j _. shape.distinct j;
      capacity_fits = λ j _. shape.capacities_fit j;
      sink_fits = λ v _. shape.sinks_fit v;
    }
