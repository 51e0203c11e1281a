use Rattle.std.proofs.Common.{◌≡◌, ℕ, ◌≤◌, ◌<◌, get_or, false}
use Rattle.ply_rows.specs.Tokens.{is_white_space}
use Rattle.ply_rows.proofs.tokens.token_end.Given as goal

abbrev pub invariant-loop-i : goal.invariant-loop-i
invariant-loop-i l = (k : ℕ) → l.start ≤ k → k < l.i → is_white_space (get_or l.body k 0) ≡ false
