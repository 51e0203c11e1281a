use Rattle.std.proofs.Common.{◌≡◌, ◌≢◌, ◌<◌, ℕ, true, false, length, slice_index}
use Rattle.flow_net.specs.Nets.{flag_at}
use Rattle.recon_check.proofs.stated.flags_at.Given as goal

abbrev pub invariant-loop-number : goal.invariant-loop-number
invariant-loop-number l =
    (length l.flags.items ≡ l.count)
    × ((k : ℕ) → k < l.number-index → flag_at l.flags.items (slice_index l.numbers k) ≡ true)
    × ((v : ℕ) → ((k : ℕ) → k < l.number-index → slice_index l.numbers k ≢ v) → flag_at l.flags.items v ≡ false)
