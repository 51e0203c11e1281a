use Rattle.std.proofs.Common.{ℕ, ◌≡◌, ◌⊎◌, ◌<◌, ◌≤◌, ◌*◌, false, length}
use Rattle.mesh_flips.specs.Fields.{HasBox}
use Rattle.mesh_smooth.specs.Rounds.{flag}
use Rattle.mesh_smooth.proofs.boxes.insert_asked.Given as goal

abbrev pub invariant-loop-f : goal.invariant-loop-f
invariant-loop-f l =
    record {
      room : length l.faces ≤ 4 * l.tree.leaves;
      insert : (k : ℕ) → k < length l.faces → (k < l.f) ⊎ (flag l.asked k ≡ false) → HasBox l.points l.faces l.tree k;
    }
