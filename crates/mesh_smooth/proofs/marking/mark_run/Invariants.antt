use Rattle.std.proofs.Common.{ℕ, ◌≡◌, ◌<◌, ◌≤◌, true}
use Rattle.mesh_smooth.specs.Rounds.{flag, KeepsFlags, IsTestedAmong}
use Rattle.mesh_smooth.proofs.marking.mark_run.Given as goal

abbrev pub invariant-loop-face : goal.invariant-loop-face
invariant-loop-face l =
    record {
      kept : KeepsFlags l.fn.crosses l.crosses;
      tested : (k : ℕ) → l.from ≤ k → k < l.face → flag l.mesh.asked.now k ≡ true → IsTestedAmong l.mesh.points.now l.mesh.faces.now l.mesh.asked.now l.crosses l.found k;
    }
