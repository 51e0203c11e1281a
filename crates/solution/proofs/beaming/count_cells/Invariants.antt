use Rattle.std.proofs.Common.{ℕ, ◌≡◌, ◌≤◌, ◌+◌, ◌-◌, length, take, slice_index}
use Rattle.tetra_store.specs.Links.{links_of, IsLive}
use Rattle.solution.specs.LongSights.{behind_weight}
use Rattle.solution.proofs.beaming.count_cells.Given as goal

abbrev pub invariant-loop-k : goal.invariant-loop-k
invariant-loop-k l = record {
  so_far : l.k ≤ length l.sights;
  count : length l.behind ≡ length l.initial.behind;
  added :
      (id : ℕ) → IsLive (links_of l.located.t.now.slots) id
      → slice_index l.behind id ≡ slice_index l.initial.behind id + behind_weight l.located.t.now l.located.scanners.now id (take l.k l.sights);
}

abbrev pub decreases-loop-k : goal.decreases-loop-k
decreases-loop-k l = length l.sights - l.k
