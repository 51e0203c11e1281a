use Rattle.std.proofs.Common.{ℕ, ◌≡◌, ◌*◌, ◌<◌, length, get_or}
use Rattle.mesh_edges.specs.Matching.{half_number, ranked_in}
use Rattle.mesh_edges.proofs.matching.link_all.Given as goal

abbrev pub invariant-loop-i : goal.invariant-loop-i
invariant-loop-i l =
    record {
      count : length l.twins.items ≡ 3 * length l.faces;
      linked :
          (j : ℕ) → j < l.i
          → (get_or l.twins.items (half_number (ranked_in l.there j)) 0 ≡ half_number (ranked_in l.back j))
          × (get_or l.twins.items (half_number (ranked_in l.back j)) 0 ≡ half_number (ranked_in l.there j));
    }
