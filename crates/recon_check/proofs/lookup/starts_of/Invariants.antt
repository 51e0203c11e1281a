use Rattle.std.proofs.Common.{length, ◌≡◌, ◌<◌, ◌≤◌, [], ℕ, map, slice_index_or}
use Rattle.recon_check.specs.Lookups.{least_number, AreStarts}
use Rattle.recon_check.proofs.lookup.starts_of.Given as goal

abbrev pub invariant-loop-number : goal.invariant-loop-number
invariant-loop-number g l =
    (length l.starts.items ≡ l.number) × (l.place ≤ length l.rows)
    × ((k : ℕ) → k < l.place → least_number (slice_index_or (map g.R.Row.key l.rows) k []) < l.number)
    × AreStarts (map g.R.Row.key l.rows) l.starts.items
