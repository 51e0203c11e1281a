use Rattle.std.proofs.Common.{ℕ, ◌<◌, get_or}
use Rattle.mesh_provenance.specs.Tails.{IsStop}
use Rattle.mesh_provenance.proofs.options_read.stop_of.Given as goal

abbrev pub invariant-loop-i : goal.invariant-loop-i
invariant-loop-i l = (k : ℕ) → k < l.i → IsStop (get_or l.text k 0) → ⊥
