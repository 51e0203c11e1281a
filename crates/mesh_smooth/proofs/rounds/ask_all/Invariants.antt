use Rattle.std.proofs.Common.{ℕ, ◌≡◌, ◌<◌, true}
use Rattle.mesh_smooth.specs.Rounds.{flag}
use Rattle.mesh_smooth.proofs.rounds.ask_all.Given as goal

abbrev pub invariant-loop-k : goal.invariant-loop-k
invariant-loop-k l = (k : ℕ) → k < l.k → flag l.asked k ≡ true
