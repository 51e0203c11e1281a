use Rattle.std.proofs.Common.{◌≡◌, ◌++◌, length}
use Rattle.std.specs.List.{flat_map}
use Rattle.recon_build.specs.Walks.{row_if_inside, all_inside}
use Rattle.recon_build.proofs.rows.inside_cells.Given as goal

abbrev pub invariant-loop-id : goal.invariant-loop-id
invariant-loop-id l = l.rows.items ++ flat_map (row_if_inside l.inside) l.cells ≡ all_inside l.inside l.t.slots

abbrev pub decreases-loop-id : goal.decreases-loop-id
decreases-loop-id l = length l.cells
