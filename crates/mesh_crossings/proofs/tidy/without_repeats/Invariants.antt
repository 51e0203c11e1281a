use Rattle.std.proofs.Common.{[]}
use Rattle.mesh_crossings.proofs.Tidied.{AreDivided}
use Rattle.mesh_crossings.proofs.tidy.without_repeats.Given as goal

abbrev pub invariant-loop-pair : goal.invariant-loop-pair
invariant-loop-pair l = AreDivided l.pairs l.list.items [] l.pair-index
