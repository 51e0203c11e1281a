use Rattle.std.proofs.Common.{ℕ, ◌≡◌, ◌≢◌, ◌<◌, false, length, get_or}
use Rattle.mesh_smooth.specs.Rounds.{flag, KeepsFlags, IsTested}
use Rattle.mesh_smooth.proofs.marking.mark_asked.Given as goal

abbrev pub invariant-loop-other : goal.invariant-loop-other
invariant-loop-other l =
    record {
      kept : KeepsFlags l.fn.crosses l.crosses;
      tested : (k : ℕ) → k < l.other-index → get_or l.found k 0 < length l.mesh.faces.now → get_or l.found k 0 ≢ l.face
          → (get_or l.found k 0 < l.face → flag l.mesh.asked.now (get_or l.found k 0) ≡ false)
          → IsTested l.mesh.points.now l.mesh.faces.now l.crosses l.face (get_or l.found k 0);
    }
