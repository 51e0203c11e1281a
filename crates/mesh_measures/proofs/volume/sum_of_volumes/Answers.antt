use Rattle.std.proofs.Common.{arith}
use Rattle.std.proofs.lemmas.Int.{ints, to_z-of_z}
use Rattle.std.proofs.lemmas.List.Sums.{fold_more}
use Rattle.mesh_measures.proofs.volume.sum_of_volumes.Goals as goal

pub loop-face-preserved : goal.loop-face-preserved
loop-face-preserved c = (
  grind (arith, ints, to_z-of_z, fold_more),
  omega (arith, ints, c.volume_of-sum.ensures.bound),
  omega (arith, ints, c.volume_of-sum.ensures.bound),
)
