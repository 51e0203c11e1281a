use Rattle.std.proofs.Common.{ℕ, ◌≡◌, ◌<◌, ◌≤◌, length, slice_get}
use Rattle.recon_check.proofs.texts.first_difference.Given as goal

abbrev pub invariant-loop-place : goal.invariant-loop-place
invariant-loop-place l = record {
  within : l.place ≤ length l.other;
  same : (i : ℕ) → i < l.place → slice_get l.text i ≡ slice_get l.other i;
}
