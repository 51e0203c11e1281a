use Rattle.std.proofs.Common.{ℕ, ◌≡◌, ◌<◌, false}
use Rattle.mesh_edges.specs.Edges.{face_at}
use Rattle.mesh_smooth.specs.Rounds.{flag, IsUnflagged}
use Rattle.mesh_smooth.proofs.putting_back.ask.Given as goal

abbrev pub invariant-loop-f : goal.invariant-loop-f
invariant-loop-f l =
    record {
      asked : (k : ℕ) → k < l.f → flag l.asked k ≡ false → IsUnflagged l.back (face_at l.faces k);
      none : l.some ≡ false → (k : ℕ) → k < l.f → flag l.asked k ≡ false;
    }
