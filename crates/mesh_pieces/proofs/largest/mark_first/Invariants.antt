use Rattle.std.proofs.Common.{ℕ, ◌≡◌, ◌<◌, ◌≤◌, true, false, length, get_or}
use Rattle.mesh_edges.specs.Things.{AreSoMany}
use Rattle.mesh_pieces.specs.Chosen.{piece_in}
use Rattle.mesh_pieces.proofs.largest.mark_first.Given as goal

abbrev pub invariant-loop-i : goal.invariant-loop-i
invariant-loop-i l =
    record {
      before : (j : ℕ) → j < l.i → get_or l.marks (piece_in l.list j).second false ≡ true;
      only : (f : ℕ) → get_or l.marks f false ≡ true → (j : ℕ) × (j < l.i) × ((piece_in l.list j).second ≡ f);
      few : l.number ≤ l.most;
      many : AreSoMany (λ f. get_or l.marks f false ≡ true) l.number;
    }
