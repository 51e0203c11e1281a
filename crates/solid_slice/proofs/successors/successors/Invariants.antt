use Rattle.std.proofs.Common.{ℕ, ◌≡◌, ◌<◌, length, get_or}
use Rattle.solid_slice.specs.Loops.{IsNext}
use Rattle.solid_slice.proofs.Matching.{no_crossing}
use Rattle.solid_slice.proofs.successors.successors.Given as goal

abbrev pub invariant-loop-at : goal.invariant-loop-at
invariant-loop-at l =
    record {
      size : length l.next.items ≡ length l.mesh.faces.items;
      each : (j : ℕ) → j < l.at
          → IsNext l.mesh.points.items l.mesh.faces.items l.fn.height (get_or l.crossings.downs.items j no_crossing).face
          (get_or l.next.items (get_or l.crossings.downs.items j no_crossing).face 0);
    }
