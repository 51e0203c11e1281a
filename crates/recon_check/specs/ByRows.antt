-- What is wrong with what is stated about cells and sides, by their numbers, in a network by numbers: of a list of numbers the one at an
-- index, and of all nodes the one whose row is the first in ascending order.
--
--   IsFixedAt net nodes k               the node at index k is fixed
--   IsOverAt net sides amounts k        the flow on the arc at index k exceeds its capacity
--   IsOverSinkAt net nodes amounts k    the flow at the sink of the node at index k exceeds its limit
--   IsOutsideAt flags nodes k           the node at index k has no flag
--   numbers net                         the network by numbers (`numbered_with`) of linked cells and their counts
--   IsUnbalanced net flow v             the flow is not conserved at the free node v
--   IsUnbalanceAt net flow v found      v is the number of a live cell at which the flow is not conserved
--                                       (`IsUnbalanced`). `found` has its sorted vertex tuple, and the amounts that
--                                       enter and leave
--   IsLeastUnbalance net flow found     `found` describes the live cell with the smallest sorted vertex tuple at which
--                                       the flow is not conserved (`IsUnbalanceAt`)
use Rattle.std.specs.Prelude.{ℕ, ◌≡◌, ◌<◌, ◌≤◌, Bool, true, false, List, slice_index}
use Rattle.cell_net.specs.Shape.{numbered_with}
use Rattle.cell_net.specs.declared.network.CellNetwork.{CellNetwork}
use Rattle.flow_net.specs.Faults as faults
use Rattle.flow_net.specs.Faults.{sink_limit, total_out}
use Rattle.flow_net.specs.Nets.{flag_at}
use Rattle.flow_net.specs.Networks.{amount_in}
use Rattle.flow_net.specs.Numbered.{NumberedNetwork, network_by}
use Rattle.flow_net.specs.declared.Flow.{Flow}
use Rattle.tetra_store.specs.Links.{links_of, IsLive}
use Rattle.cell_net.specs.Counts.{row_of}
use Rattle.cell_net.specs.Gathered.{row_key}
use Rattle.recon_check.specs.declared.balance.Unbalance.{Unbalance}

-- the node at an index is fixed
abbrev pub IsFixedAt : NumberedNetwork → List ℕ → ℕ → Type 0
IsFixedAt net nodes k = net.is_fixed (slice_index nodes k) ≡ true

-- the flow on the arc at an index exceeds its capacity
abbrev pub IsOverAt : NumberedNetwork → List ℕ → List ℕ → ℕ → Type 0
IsOverAt net sides amounts k = net.capacity (slice_index sides k) < slice_index amounts (slice_index sides k)

-- the flow at the sink of the node at an index exceeds its limit
abbrev pub IsOverSinkAt : NumberedNetwork → List ℕ → List ℕ → ℕ → Type 0
IsOverSinkAt net nodes amounts k = sink_limit (network_by net) (slice_index nodes k) < slice_index amounts (slice_index nodes k)

-- the node at an index has no flag
abbrev pub IsOutsideAt : List Bool → List ℕ → ℕ → Type 0
IsOutsideAt flags nodes k = flag_at flags (slice_index nodes k) ≡ false

-- a node for each number of a cell, an arc for each number of a side
abbrev pub numbers : CellNetwork → NumberedNetwork
numbers net =
    numbered_with net.tetra.now.slots net.counts.crossed.now net.counts.behind.now net.counts.fixed.now net.settings net.shape

-- the node is free, and the flow is not conserved there
abbrev pub IsUnbalanced : CellNetwork → Flow → ℕ → Type 0
IsUnbalanced net flow =
    faults.IsUnbalanced (network_by (numbers net)) (slice_index flow.on_arc) (slice_index flow.on_sink)

-- the cell with this number, what enters it and what leaves it
pub record IsUnbalanceAt (net : CellNetwork) (flow : Flow) (v : ℕ) (found : Unbalance) : Type 0 where
  pub live : IsLive (links_of net.tetra.now.slots) v
  pub unbalanced : IsUnbalanced net flow v
  pub cell_is : found.cell ≡ row_of net.tetra.now.slots v
  pub in_is : found.amount_in ≡ amount_in (network_by (numbers net)) (slice_index flow.on_arc) v
  pub out_is : found.amount_out ≡ total_out (network_by (numbers net)) (slice_index flow.on_arc) (slice_index flow.on_sink) v

-- its row comes before those of all others
pub record IsLeastUnbalance (net : CellNetwork) (flow : Flow) (found : Unbalance) : Type 0 where
  pub node : ℕ
  pub at : IsUnbalanceAt net flow node found
  pub least : (v : ℕ) → v < (numbers net).node_count → IsUnbalanced net flow v
      → row_key found.cell ≤ row_key (row_of net.tetra.now.slots v)
