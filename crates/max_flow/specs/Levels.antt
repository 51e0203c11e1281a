-- Levels that show from which nodes a sink with residual capacity can be reached.
--
--   LeadsLower      an unsaturated residual arc leads from the node to a found one of a lower level
--   AreLeading net flow marked level leads
--                   there is a flag for each node; from each node with a flag, an unsaturated residual arc leads to a
--                   found node of a lower level (`LeadsLower`)
--   IsOnward net flow marked level v
--                   an unsaturated residual arc leads from the node to a found one of a lower level, or the node is
--                   free and its own sink is not full
--   IsClosedArc net flow marked r   the residual arc r leads to no found node, or leaves one, or is saturated
--   IsClosedBelow net flow marked bound
--                   `IsClosedArc` holds for the two residual arcs of each arc with a number below the bound
--   AreLevels net flow marked level
--                   each node whose sink is not full is found; no unsaturated residual arc leads from a node that is
--                   not found to a found one; each found node is onward. So the found nodes are exactly those that
--                   reach a sink with residual capacity
use Rattle.std.specs.Prelude.{ℕ, ◌≡◌, ◌<◌, ◌≤◌, ◌⊎◌, Bool, true, false, List, length, slice_index}
use Rattle.flow_net.specs.Numbered.{NumberedNetwork}
use Rattle.flow_net.specs.declared.Flow.{Flow}
use Rattle.flow_net.specs.Nets.{flag_at}
use Rattle.max_flow.specs.declared.residual.ResidualArc.{ResidualArc}
use Rattle.max_flow.specs.Residual.{tail_of, head_of, room_of}
use Rattle.max_flow.specs.Paths.{HasRoom}

-- a residual arc with residual capacity, from node v to a found node of a lower level
pub record LeadsLower (net : NumberedNetwork) (flow : Flow) (marked : List Bool) (level : List ℕ) (v : ℕ) : Type 0 where
  pub along : ResidualArc
  pub in_range : along.arc < net.arc_count
  pub begins : tail_of net along ≡ v
  pub room : 1 ≤ room_of net flow along
  pub goes : flag_at marked (head_of net along) ≡ true
  pub lower : slice_index level (head_of net along) < slice_index level v

-- from each node that is recorded to have one, such an arc leads
pub record AreLeading (net : NumberedNetwork) (flow : Flow) (marked : List Bool) (level : List ℕ) (leads : List Bool) : Type 0 where
  pub count : length leads ≡ net.node_count
  pub lead : (v : ℕ) → v < net.node_count → flag_at leads v ≡ true → LeadsLower net flow marked level v

-- a free node whose sink has residual capacity, or from which such an arc leads
abbrev pub IsOnward : NumberedNetwork → Flow → List Bool → List ℕ → ℕ → Type 0
IsOnward net flow marked level v = HasRoom net flow v ⊎ LeadsLower net flow marked level v

-- a residual arc that enters a found node leaves a found one, or has no residual capacity
abbrev pub IsClosedArc : NumberedNetwork → Flow → List Bool → ResidualArc → Type 0
IsClosedArc net flow marked r =
    flag_at marked (head_of net r) ≡ true → flag_at marked (tail_of net r) ≡ false → room_of net flow r ≡ 0

-- so do the residual arcs of arcs below a bound
abbrev pub IsClosedBelow : NumberedNetwork → Flow → List Bool → ℕ → Type 0
IsClosedBelow net flow marked bound = (r : ResidualArc) → r.arc < bound → IsClosedArc net flow marked r

-- the found nodes are those from which a sink with residual capacity can be reached
pub record AreLevels (net : NumberedNetwork) (flow : Flow) (marked : List Bool) (level : List ℕ) : Type 0 where
  pub marked_count : length marked ≡ net.node_count
  pub all_ends : (v : ℕ) → v < net.node_count → HasRoom net flow v → flag_at marked v ≡ true
  pub closed : IsClosedBelow net flow marked net.arc_count
  pub onward : (v : ℕ) → v < net.node_count → flag_at marked v ≡ true → IsOnward net flow marked level v
