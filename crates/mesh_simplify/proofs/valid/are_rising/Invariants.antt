use Rattle.std.proofs.Common.{ℕ, ◌+◌, ◌<◌, get_or}
use Rattle.mesh_simplify.proofs.valid.are_rising.Given as goal

abbrev pub invariant-loop-at : goal.invariant-loop-at
invariant-loop-at l = (j : ℕ) → j + 1 < l.at → get_or l.from j 0 < get_or l.from (j + 1) 0
