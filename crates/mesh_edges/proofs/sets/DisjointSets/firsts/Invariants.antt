use Rattle.std.proofs.Common.{ℕ, ◌≡◌, ◌<◌, ◌≤◌, length, get_or}
use Rattle.mesh_edges.specs.Sets.{IsTop}
use Rattle.mesh_edges.proofs.sets.DisjointSets.firsts.Given as goal

abbrev pub invariant-loop-i : goal.invariant-loop-i
invariant-loop-i l =
    record {
      count : length l.firsts.items ≡ l.i;
      tops : (k : ℕ) → k < l.i → IsTop l.self.parents.items k (get_or l.firsts.items k 0);
      least : (k : ℕ) → k < l.i → get_or l.firsts.items k 0 ≤ k;
    }
