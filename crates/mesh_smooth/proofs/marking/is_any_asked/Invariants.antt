use Rattle.std.proofs.Common.{ℕ, ◌≡◌, ◌<◌, ◌≤◌, false}
use Rattle.mesh_smooth.specs.Rounds.{flag}
use Rattle.mesh_smooth.proofs.marking.is_any_asked.Given as goal

abbrev pub invariant-loop-face : goal.invariant-loop-face
invariant-loop-face l = (k : ℕ) → l.from ≤ k → k < l.face → flag l.asked k ≡ false
