use Rattle.std.proofs.Common.{ℕ, ◌<◌, get_or}
use Rattle.mesh_simplify.proofs.valid.are_below.Given as goal

abbrev pub invariant-loop-v : goal.invariant-loop-v
invariant-loop-v l = (k : ℕ) → k < l.v-index → get_or l.from k 0 < l.count
