use Rattle.std.proofs.Common.{ℕ, ◌≡◌, ◌+◌, ◌*◌, ◌≤◌, ◌⊎◌, length, get_or}
use Rattle.mesh_edges.specs.Walks.{IsWalkState, IsOn, StaySettled, unvisited}
use Rattle.mesh_edges.proofs.walk.walk_on.Given as goal

abbrev pub invariant-steps : goal.invariant-steps
invariant-steps l =
    record {
      walk : IsWalkState l.faces l.walk.twins.items l.walk.labels.items l.walk.seen.items l.walk.trail.items l.walk.visited.items;
      count : length l.walk.labels.items ≡ length l.initial.walk.labels.items;
      stay : StaySettled l.initial.walk.labels.items l.walk.labels.items;
      kept :
          (h : ℕ) → IsOn l.initial.walk.trail.items 0 (length l.initial.walk.trail.items) h
          → (length l.walk.labels.items ≤ get_or l.walk.labels.items h 0) ⊎ IsOn l.walk.trail.items 0 (length l.walk.trail.items) h;
    }

abbrev pub decreases-steps : goal.decreases-steps
decreases-steps l = length l.walk.trail.items + 2 * unvisited l.walk.visited.items
