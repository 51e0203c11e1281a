use Rattle.std.proofs.Common.{◌≡◌, ◌++◌, length}
use Rattle.std.specs.List.{flat_map}
use Rattle.cell_net.specs.Gathered.{open_at, all_open}
use Rattle.votes.proofs.sides.open_sides.Given as goal

abbrev pub invariant-loop-id : goal.invariant-loop-id
invariant-loop-id l = l.sides.items ++ flat_map (open_at l.fixed) l.cells ≡ all_open l.fixed l.t.slots

abbrev pub decreases-loop-id : goal.decreases-loop-id
decreases-loop-id l = length l.cells
