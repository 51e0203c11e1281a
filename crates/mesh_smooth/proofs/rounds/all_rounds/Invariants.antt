use Rattle.std.proofs.Common.{ℕ, ◌≡◌, ◌⊎◌}
use Rattle.mesh.specs.Meshes.{point_at}
use Rattle.mesh_flips.specs.Fields.{IsTreeOf}
use Rattle.mesh_smooth.specs.Rounds.{AreKeptApart}
use Rattle.mesh_smooth.proofs.rounds.all_rounds.Given as goal

abbrev pub invariant-loop : goal.invariant-loop
invariant-loop l =
    record {
      either : (v : ℕ) → (point_at l.points v ≡ point_at l.fn.points v) ⊎ (point_at l.points v ≡ point_at l.before v);
      tree : IsTreeOf l.points l.faces l.tree;
      kept : AreKeptApart l.before l.points l.faces l.asked;
    }
