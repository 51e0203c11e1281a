use Rattle.std.proofs.Common.{◌<◌, ℕ, slice_index}
use Rattle.recon_check.proofs.stated.first_past.Given as goal

abbrev pub invariant-loop-place : goal.invariant-loop-place
invariant-loop-place l = (k : ℕ) → k < l.place → slice_index l.numbers k < l.limit
