use Rattle.std.proofs.Common.{ℕ, ◌<◌}
use Rattle.geo_sign.specs.Point.{IsWithin}
use Rattle.geo_sign.specs.declared.point.TheConstants.{BOX_LIMIT}
use Rattle.mesh.specs.Meshes.{point_at}
use Rattle.mesh_simplify.proofs.valid.keep_box.Given as goal

abbrev pub invariant-loop-p : goal.invariant-loop-p
invariant-loop-p l = (k : ℕ) → k < l.p-index → IsWithin BOX_LIMIT (point_at l.points k)
