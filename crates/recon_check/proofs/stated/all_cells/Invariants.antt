use Rattle.std.proofs.Common.{map}
use Rattle.recon_check.specs.Lookups.{AreCellsFound}
use Rattle.recon_check.proofs.stated.all_cells.Given as goal

abbrev pub invariant-loop-number : goal.invariant-loop-number
invariant-loop-number g l = AreCellsFound l.t.slots l.limit l.number (map g.R.Row.key l.rows) l.cells.items
