use Rattle.std.proofs.Common.{ℕ, ◌≡◌, ◌<◌, length}
use Rattle.mesh.specs.Meshes.{point_at}
use Rattle.mesh_smooth.specs.Smoothed.{magnified}
use Rattle.mesh_smooth.proofs.fine_grid.magnified_points.Given as goal

abbrev pub invariant-loop-p : goal.invariant-loop-p
invariant-loop-p l =
    record {
      count : length l.new.items ≡ l.p-index;
      each : (k : ℕ) → k < l.p-index → point_at l.new.items k ≡ magnified l.fine (point_at l.points k);
    }
