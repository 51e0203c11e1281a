use Rattle.std.proofs.Common.{◌≡◌}
use Rattle.mesh_measures.proofs.Listed.{all_sides}
use Rattle.mesh_measures.proofs.sides.sorted_sides.Given as goal

abbrev pub invariant-loop-f : goal.invariant-loop-f
invariant-loop-f l = l.sides.items ≡ all_sides l.faces l.f
