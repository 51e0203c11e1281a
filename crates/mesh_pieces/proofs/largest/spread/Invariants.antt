use Rattle.std.proofs.Common.{ℕ, ◌≡◌, ◌<◌, false, length, get_or}
use Rattle.mesh_pieces.proofs.largest.spread.Given as goal

abbrev pub invariant-loop-k : goal.invariant-loop-k
invariant-loop-k l =
    record {
      count : length l.kept.items ≡ l.k;
      kept : (f : ℕ) → f < l.k → get_or l.kept.items f false ≡ get_or l.marks (get_or l.firsts f 0) false;
    }
