use Rattle.std.proofs.Common.{ℕ, ◌≡◌, ◌<◌, true}
use Rattle.mesh_edges.specs.Edges.{face_at}
use Rattle.mesh_smooth.specs.Rounds.{flag, IsStill, HasGoneBack}
use Rattle.mesh_smooth.proofs.putting_back.put_back.Given as goal

abbrev pub invariant-loop-f : goal.invariant-loop-f
invariant-loop-f l =
    record {
      back : HasGoneBack l.before l.fn.points l.points l.fn.back l.back;
      there : (k : ℕ) → k < l.f → flag l.crosses k ≡ true → IsStill l.before l.points (face_at l.faces k);
    }
