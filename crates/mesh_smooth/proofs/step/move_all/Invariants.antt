use Rattle.mesh_smooth.specs.Near.{AreNearHome}
use Rattle.mesh_smooth.proofs.step.move_all.Given as goal

abbrev pub invariant-loop-v : goal.invariant-loop-v
invariant-loop-v l = AreNearHome l.home l.points l.within
