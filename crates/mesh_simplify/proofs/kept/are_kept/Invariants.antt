use Rattle.std.proofs.Common.{ℕ, ◌<◌}
use Rattle.mesh_crossings.specs.Tested.{pair_in}
use Rattle.mesh_simplify.specs.Tested.{IsOldFaceAt}
use Rattle.mesh_simplify.proofs.kept.are_kept.Given as goal

abbrev pub invariant-loop-pair : goal.invariant-loop-pair
invariant-loop-pair l =
    (k : ℕ) → k < l.pair-index
    → IsOldFaceAt l.old.points.items l.mesh.points.items l.from l.old.faces.items l.mesh.faces.items (pair_in l.pairs k).first
    × IsOldFaceAt l.old.points.items l.mesh.points.items l.from l.old.faces.items l.mesh.faces.items (pair_in l.pairs k).second
