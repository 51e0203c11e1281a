use Rattle.std.proofs.Common.{ℕ, ◌≡◌, ◌+◌, ◌*◌, ◌<◌, [], ◌∷◌, length}
use Rattle.mesh_edges.specs.Edges.{face_at}
use Rattle.mesh_pieces.specs.Vertices.{fan_number}
use Rattle.mesh_pieces.proofs.vertices.renumbered.Given as goal

abbrev pub invariant-loop-f : goal.invariant-loop-f
invariant-loop-f l =
    record {
      count : length l.new.items ≡ l.f;
      each :
          (g : ℕ) → g < l.f
          → face_at l.new.items g
          ≡ fan_number l.numbers l.roots (3 * g) ∷ fan_number l.numbers l.roots (3 * g + 1)
          ∷ fan_number l.numbers l.roots (3 * g + 2) ∷ [];
    }
