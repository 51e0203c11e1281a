use Rattle.std.proofs.Common.{length, ◌-◌, ◌<◌, ◌≤◌, [], ℕ, map, slice_index_or}
use Rattle.recon_check.specs.Lookups.{least_number}
use Rattle.recon_check.proofs.lookup.skip.Given as goal

abbrev pub invariant-loop-place : goal.invariant-loop-place
invariant-loop-place g l =
    (l.from ≤ l.place) × (l.place ≤ length l.rows)
    × ((k : ℕ) → l.from ≤ k → k < l.place → least_number (slice_index_or (map g.R.Row.key l.rows) k []) < l.number)

abbrev pub decreases-loop-place : goal.decreases-loop-place
decreases-loop-place g l = length l.rows - l.place
