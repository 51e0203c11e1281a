use Rattle.std.proofs.Common.{ℕ, ◌≡◌, ◌<◌, length, get_or}
use Rattle.mesh_edges.proofs.sets.DisjointSets.new.Given as goal

abbrev pub invariant-loop-i : goal.invariant-loop-i
invariant-loop-i l =
    record { count : length l.parents.items ≡ l.i; own : (k : ℕ) → k < l.i → get_or l.parents.items k 0 ≡ k }
