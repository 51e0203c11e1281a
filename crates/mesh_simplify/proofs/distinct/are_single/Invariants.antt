use Rattle.std.proofs.Common.{ℕ, ◌+◌, ◌<◌, get_or}
use Rattle.mesh_simplify.proofs.distinct.are_single.Given as goal

abbrev pub invariant-loop-at : goal.invariant-loop-at
invariant-loop-at l = (j : ℕ) → j + 1 < l.at → get_or l.keys j 0 < get_or l.keys (j + 1) 0
