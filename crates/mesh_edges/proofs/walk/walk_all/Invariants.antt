use Rattle.std.proofs.Common.{ℕ, ◌≡◌, ◌<◌, ◌≤◌, length, get_or}
use Rattle.mesh_edges.specs.Walks.{IsWalkState}
use Rattle.mesh_edges.proofs.walk.walk_all.Given as goal

abbrev pub invariant-loop-h : goal.invariant-loop-h
invariant-loop-h l =
    record {
      walk : IsWalkState l.faces l.walk.twins.items l.walk.labels.items l.walk.seen.items l.walk.trail.items l.walk.visited.items;
      count : length l.walk.twins.items ≡ length l.initial.walk.twins.items;
      empty : length l.walk.trail.items ≡ 0;
      settled : (g : ℕ) → g < l.h → length l.walk.labels.items ≤ get_or l.walk.labels.items g 0;
    }
