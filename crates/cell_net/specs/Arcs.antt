-- What linked cells and visibility weights are as nodes and arcs. Node v is the cell with number v, arc 4 * v + k its side k.
--
--   across slots j             the neighbor at side j % 4 of cell j / 4
--   neighbor_or_self slots j   the node that an arc enters: the neighbor, or on a wall the cell itself
--   is_free fixed other        there is a neighbor, and it is free
--   is_paired slots fixed j    the cell of the side is free too, so the arc has a reverse
--   capacity_of ..             the visibility weight for each crossing and the area weight, if the neighbor exists and is free
--   is_outside slots fixed v   the number has no cell, or a fixed one
--   sink_of ..                 the visibility weight for each sight that the cell is behind
--   IsShape slots crossed behind fixed settings
--                              the lists are a network: counts for each number that can have a cell, nodes at both ends
--                              of each arc, and amounts that fit
use Rattle.std.specs.Prelude.{ℕ, ◌≢◌, ◌<◌, ◌≤◌, ◌^◌, length, ◌+◌, ◌*◌, ◌/◌, ◌%◌, ◌&&◌, ◌||◌, Bool, false, not, List, Option}
use Rattle.std.specs.Prelude.{Some, None, slice_index, unwrap_or, if◌then◌else◌}
use Rattle.flow_net.specs.Nets.{flag_at}
use Rattle.flow_net.specs.declared.votes.Settings.{Settings}
use Rattle.tetra_store.specs.declared.link.Cell.{Cell}
use Rattle.tetra_store.specs.Links.{links_of}

-- the adjacent cell at side j % 4 of cell j / 4
abbrev pub across : List (Option Cell) → ℕ → Option ℕ
across slots j = (links_of slots).next (j / 4) (j % 4)

-- the neighbor, or the cell itself
abbrev pub neighbor_or_self : List (Option Cell) → ℕ → ℕ
neighbor_or_self slots j = unwrap_or (across slots j) (j / 4)

-- there is a neighbor, and it is free
abbrev pub is_free : List Bool → Option ℕ → Bool
is_free fixed None = false
is_free fixed (Some other) = not (flag_at fixed other)

-- the cell of the side is free, and its adjacent cell there is free
abbrev pub is_paired : List (Option Cell) → List Bool → ℕ → Bool
is_paired slots fixed j = not (flag_at fixed (j / 4)) && is_free fixed (across slots j)

-- of an arc
abbrev pub capacity_of : List (Option Cell) → (crossed : List ℕ) → List Bool → Settings → ℕ → ℕ
capacity_of slots crossed fixed settings j =
    if is_free fixed (across slots j) then settings.vote * slice_index crossed j + settings.smooth else 0

-- no cell, or a fixed one
abbrev pub is_outside : List (Option Cell) → List Bool → ℕ → Bool
is_outside slots fixed v = not ((links_of slots).is_live v) || flag_at fixed v

-- of a node
abbrev pub sink_of : List (Option Cell) → (behind : List ℕ) → Settings → ℕ → ℕ
sink_of slots behind settings v = if (links_of slots).is_live v then settings.vote * slice_index behind v else 0

-- Counts and flags for each number that can have a cell. What leaves a node enters one, another one where something can flow, and no
-- amount is above 2^60.
pub record IsShape (slots : List (Option Cell)) (crossed behind : List ℕ) (fixed : List Bool) (settings : Settings) : Type 0 where
  pub flags : length slots ≤ length fixed
  pub sides : 4 * length slots ≤ length crossed
  pub cells : length slots ≤ length behind
  pub tails_in : (j : ℕ) → j < 4 * length fixed → j / 4 < length fixed
  pub heads_in : (j : ℕ) → j < 4 * length fixed → neighbor_or_self slots j < length fixed
  pub distinct : (j : ℕ) → 1 ≤ capacity_of slots crossed fixed settings j → j / 4 ≢ neighbor_or_self slots j
  pub capacities_fit : (j : ℕ) → capacity_of slots crossed fixed settings j ≤ 2 ^ 60
  pub sinks_fit : (v : ℕ) → sink_of slots behind settings v ≤ 2 ^ 60
