use Rattle.std.proofs.Common.{length}
use Rattle.cell_tests.proofs.tests.insertions.example_of_delaunay.Given as goal

abbrev pub decreases-loop-cell : goal.decreases-loop-cell
decreases-loop-cell g l = length l.cells
