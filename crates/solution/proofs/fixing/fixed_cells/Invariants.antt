use Rattle.solution.proofs.Flags.{AreFixedTo}
use Rattle.solution.proofs.fixing.fixed_cells.Given as goal

abbrev pub invariant-loop-cell : goal.invariant-loop-cell
invariant-loop-cell l = AreFixedTo l.t l.scanners l.cell-index l.flags.items
