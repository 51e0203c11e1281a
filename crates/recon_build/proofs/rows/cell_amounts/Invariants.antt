use Rattle.std.proofs.Common.{◌≡◌, ◌++◌, length}
use Rattle.std.specs.List.{flat_map}
use Rattle.recon_build.specs.Walks.{sink_if_any, all_sinks}
use Rattle.recon_build.proofs.rows.cell_amounts.Given as goal

abbrev pub invariant-loop-id : goal.invariant-loop-id
invariant-loop-id l = l.rows.items ++ flat_map (sink_if_any l.amounts) l.cells ≡ all_sinks l.amounts l.t.slots

abbrev pub decreases-loop-id : goal.decreases-loop-id
decreases-loop-id l = length l.cells
