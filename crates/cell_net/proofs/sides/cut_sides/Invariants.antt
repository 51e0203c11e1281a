use Rattle.std.proofs.Common.{◌≡◌, ◌++◌, length}
use Rattle.std.specs.List.{flat_map}
use Rattle.cell_net.specs.Gathered.{cut_at, all_cut}
use Rattle.cell_net.proofs.sides.cut_sides.Given as goal

abbrev pub invariant-loop-id : goal.invariant-loop-id
invariant-loop-id l = l.sides.items ++ flat_map (cut_at l.outside) l.cells ≡ all_cut l.outside l.t.slots

abbrev pub decreases-loop-id : goal.decreases-loop-id
decreases-loop-id l = length l.cells
