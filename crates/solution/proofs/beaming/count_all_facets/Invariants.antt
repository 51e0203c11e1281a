use Rattle.std.proofs.Common.{ℕ, ◌≡◌, ◌<◌, ◌≤◌, ◌+◌, ◌*◌, length, slice_index}
use Rattle.flow_net.specs.declared.votes.TheConstants.{SIGHT_LIMIT}
use Rattle.tetra_store.specs.Links.{links_of, IsLive}
use Rattle.solution.specs.Lines.{CanFollow}
use Rattle.solution.specs.LongSights.{crossing_weight}
use Rattle.solution.proofs.beaming.count_all_facets.Given as goal

abbrev pub invariant-loop-rest : goal.invariant-loop-rest
invariant-loop-rest g l = record {
  count : length l.crossed ≡ length l.initial.crossed;
  follow : CanFollow l.located l.rest;
  few : length l.rest ≤ SIGHT_LIMIT;
  sums :
      (id k : ℕ) → IsLive (links_of l.located.t.now.slots) id → k < 4
      → slice_index l.crossed (4 * id + k) + crossing_weight l.located.t.now l.located.scanners.now id k l.rest
      ≡ slice_index l.initial.crossed (4 * id + k) + crossing_weight l.located.t.now l.located.scanners.now id k l.sights;
}

abbrev pub decreases-loop-rest : goal.decreases-loop-rest
decreases-loop-rest g l = length l.rest
