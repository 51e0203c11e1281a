use Rattle.std.proofs.Common.{◌≡◌, ◌+◌, ◌*◌, length, slice_index}
use Rattle.solution.proofs.WalkCounts.{IsCounting, rest_of}
use Rattle.solution.proofs.tally.count_crossed_by_two.Given as goal

abbrev pub invariant-loop-along_one : goal.invariant-loop-along_one
invariant-loop-along_one l =
    (length l.crossed ≡ length l.initial.crossed)
    × (l.along_other.store ≡ l.t)
    × IsCounting l.t l.one.added l.along_one (rest_of l.other.added l.along_other)
    (λ id k. slice_index l.initial.crossed (4 * id + k)
    + (rest_of l.one.added l.initial.along_one id k + rest_of l.other.added l.initial.along_other id k)) l.crossed

abbrev pub decreases-loop-along_one : goal.decreases-loop-along_one
decreases-loop-along_one l = length l.along_one.to_come + length l.along_other.to_come
