use Rattle.std.proofs.Common.{◌≡◌, ◌<◌, ◌≤◌, ◌-◌, ◌^◌}
use Rattle.triangles.proofs.tree.HullTree.new.Given as goal

abbrev pub invariant-loop-leaves : goal.invariant-loop-leaves
invariant-loop-leaves l = (l.leaves ≡ 2 ^ l.height) × (l.height ≤ 59) × (l.leaves ≤ 2 ^ 59) × (0 < l.leaves)

abbrev pub decreases-loop-leaves : goal.decreases-loop-leaves
decreases-loop-leaves l = l.count - l.leaves
