use Rattle.std.proofs.Common.{◌≡◌, map, take}
use Rattle.cell_net.specs.Parts.{cell_of_row}
use Rattle.cell_net.proofs.rows.cells_of.Given as goal

abbrev pub invariant-loop-row : goal.invariant-loop-row
invariant-loop-row l = l.cells.items ≡ map cell_of_row (take l.row-index l.rows)
