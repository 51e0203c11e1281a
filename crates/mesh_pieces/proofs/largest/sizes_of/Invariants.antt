use Rattle.mesh_pieces.specs.Chosen.{AreSizes}
use Rattle.mesh_pieces.proofs.largest.sizes_of.Given as goal

abbrev pub invariant-loop-k : goal.invariant-loop-k
invariant-loop-k l = AreSizes l.firsts l.sizes.items l.k
