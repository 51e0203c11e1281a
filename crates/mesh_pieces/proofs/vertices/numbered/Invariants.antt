use Rattle.std.proofs.Common.{ℕ, ◌<◌, ◌≤◌, length}
use Rattle.mesh_pieces.specs.Vertices.{ArePlaced, HoldsVertex, IsHighest, root_in}
use Rattle.mesh_pieces.proofs.vertices.numbered.Given as goal

abbrev pub invariant-loop-i : goal.invariant-loop-i
invariant-loop-i l =
    record {
      placed : ArePlaced l.faces l.roots l.vertices.numbers.items l.vertices.origin.items l.vertices.holders.items;
      all :
          (j : ℕ) → j < l.i
          → HoldsVertex l.vertices.numbers.items l.vertices.holders.items ((root_in l.list.items j).second);
      top : (j : ℕ) → l.i ≤ j → j < length l.list.items → IsHighest l.vertices.origin.items ((root_in l.list.items j).first);
      few : length l.vertices.holders.items ≤ l.i;
    }
