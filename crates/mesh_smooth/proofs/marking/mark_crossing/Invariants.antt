use Rattle.std.proofs.Common.{ℕ, ◌≡◌, ◌<◌, ◌*◌, true, length}
use Rattle.mesh_smooth.specs.Rounds.{flag, AreTested}
use Rattle.mesh_smooth.proofs.marking.mark_crossing.Given as goal

abbrev pub invariant-loop-run : goal.invariant-loop-run
invariant-loop-run l =
    (k : ℕ) → k < 4 * l.run → k < length l.faces → flag l.asked k ≡ true → AreTested l.points l.faces l.asked l.crosses k
