use Rattle.std.proofs.Common.{◌≡◌, ℕ, ◌<◌, false, get_or}
use Rattle.num_text.specs.Decimals.{is_point}
use Rattle.num_text.proofs.decimal.point_position.Given as goal

abbrev pub invariant-loop-position : goal.invariant-loop-position
invariant-loop-position l = (k : ℕ) → k < l.position → is_point (get_or l.text k 0) ≡ false
