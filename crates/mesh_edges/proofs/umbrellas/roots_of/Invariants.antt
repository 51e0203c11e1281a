use Rattle.std.proofs.Common.{ℕ, ◌≡◌, ◌+◌, ◌<◌, length, get_or}
use Rattle.mesh_edges.proofs.umbrellas.roots_of.Given as goal

abbrev pub invariant-loop-h : goal.invariant-loop-h
invariant-loop-h l =
    record {
      count : length l.roots.items ≡ l.h;
      roots : (g : ℕ) → g < l.h → get_or l.roots.items g 0 + length l.labels ≡ get_or l.labels g 0;
    }
