use Rattle.std.proofs.Common.{ℕ, ◌<◌, ◌≤◌, ◌*◌}
use Rattle.geo_sign.specs.Point.{IsWithin}
use Rattle.geo_sign.specs.declared.point.TheConstants.{BOX_LIMIT}
use Rattle.mesh.specs.Meshes.{point_at}
use Rattle.mesh_smooth.specs.Smoothed.{FitsTimes}
use Rattle.mesh_smooth.specs.declared.fine_grid.TheConstants.{INNER_LIMIT}
use Rattle.mesh_smooth.proofs.fine_grid.greatest.Given as goal

abbrev pub invariant-loop-p : goal.invariant-loop-p
invariant-loop-p l =
    record {
      bound : l.reach ≤ BOX_LIMIT;
      each : (k : ℕ) → k < l.p-index → IsWithin l.reach (point_at l.points k);
      least : (k : ℕ) → FitsTimes l.points k → k * l.reach ≤ INNER_LIMIT;
    }
