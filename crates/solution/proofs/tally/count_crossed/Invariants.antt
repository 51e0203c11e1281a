use Rattle.std.proofs.Common.{◌≡◌, ◌+◌, ◌*◌, length, slice_index}
use Rattle.solution.proofs.WalkCounts.{IsCounting, rest_of}
use Rattle.solution.proofs.tally.count_crossed.Given as goal

abbrev pub invariant-loop-along : goal.invariant-loop-along
invariant-loop-along l =
    (length l.crossed ≡ length l.initial.crossed)
    × IsCounting l.t l.line.added l.along (λ id k. 0)
    (λ id k. slice_index l.initial.crossed (4 * id + k) + rest_of l.line.added l.initial.along id k) l.crossed

abbrev pub decreases-loop-along : goal.decreases-loop-along
decreases-loop-along l = length l.along.to_come
