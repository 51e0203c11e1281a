use Rattle.std.proofs.Common.{◌≡◌, ◌++◌, map, length}
use Rattle.cell_net.specs.Gathered.{row_at, all_rows}
use Rattle.cell_net.proofs.rows.rows.Given as goal

abbrev pub invariant-loop-id : goal.invariant-loop-id
invariant-loop-id l = l.rows.items ++ map row_at l.cells ≡ all_rows l.t.slots

abbrev pub decreases-loop-id : goal.decreases-loop-id
decreases-loop-id l = length l.cells
