use Rattle.std.proofs.Common.{ℕ, ◌<◌, ◌≤◌, ◌*◌, length}
use Rattle.mesh_flips.specs.Fields.{HasBox}
use Rattle.mesh_flips.proofs.driving.tree_of.Given as goal

abbrev pub invariant-loop-i : goal.invariant-loop-i
invariant-loop-i l =
    record {
      room : length l.faces ≤ 4 * l.tree.leaves;
      insert : (k : ℕ) → k < l.i → HasBox l.points l.faces l.tree k;
    }
