use Rattle.std.proofs.Common.{◌<◌, ◌≤◌}
use Rattle.mesh_edges.specs.Things.{AreSoMany}
use Rattle.mesh_measures.specs.Sides.{IsOddSide}
use Rattle.mesh_measures.proofs.manifolds.count_odd_sides.Given as goal

abbrev pub invariant-loop-i : goal.invariant-loop-i
invariant-loop-i l = record { few : l.count ≤ l.i; many : AreSoMany (λ i. (i < l.i) × IsOddSide l.sides i) l.count }
