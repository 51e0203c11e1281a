use Rattle.std.proofs.Common.{◌≡◌, ◌*◌, ◌^◌, take, pos, neg_ℤ, ◌≤ℤ◌}
use Rattle.mesh_measures.specs.Volumes.{six_volume}
use Rattle.mesh_measures.proofs.volume.sum_of_volumes.Given as goal

abbrev pub invariant-loop-face : goal.invariant-loop-face
invariant-loop-face l =
    (l.sum ≡ six_volume l.points (take l.face-index l.faces)) × (neg_ℤ (pos (2 ^ 75 * l.face-index)) ≤ℤ l.sum)
    × (l.sum ≤ℤ pos (2 ^ 75 * l.face-index))
