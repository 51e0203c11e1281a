use Rattle.std.proofs.Common.{◌≡◌, ℕ, ◌<◌, false, get_or}
use Rattle.num_text.specs.Decimals.{is_exponent_mark}
use Rattle.num_text.proofs.decimal.exponent_mark_position.Given as goal

abbrev pub invariant-loop-position : goal.invariant-loop-position
invariant-loop-position l = (k : ℕ) → k < l.position → is_exponent_mark (get_or l.text k 0) ≡ false
