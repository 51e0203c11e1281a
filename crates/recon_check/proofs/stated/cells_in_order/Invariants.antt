use Rattle.std.proofs.Common.{map}
use Rattle.recon_check.specs.Lookups.{AreCellsFound}
use Rattle.recon_check.proofs.stated.cells_in_order.Given as goal

abbrev pub invariant-loop-number : goal.invariant-loop-number
invariant-loop-number g l = AreCellsFound l.t.slots l.limit 0 (map g.R.Row.key l.rows) l.cells.items
