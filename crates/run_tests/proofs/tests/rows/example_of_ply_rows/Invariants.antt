use Rattle.std.proofs.Common.{length}
use Rattle.run_tests.proofs.tests.rows.example_of_ply_rows.Given as goal

abbrev pub decreases-loop-heights : goal.decreases-loop-heights
decreases-loop-heights g l = length l.rows.left.rows
