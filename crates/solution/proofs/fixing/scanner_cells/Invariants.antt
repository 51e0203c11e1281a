use Rattle.solution.proofs.Flags.{AreFirstCells}
use Rattle.solution.proofs.fixing.scanner_cells.Given as goal

abbrev pub invariant-loop-scanner : goal.invariant-loop-scanner
invariant-loop-scanner l = AreFirstCells l.t l.scanners l.scanner-index l.cells.items
