use Rattle.mesh_join.proofs.AllPlaces.{ArePlaced}
use Rattle.mesh_join.proofs.all_places.each_once.Given as goal

abbrev pub invariant-loop-point : goal.invariant-loop-point
invariant-loop-point l = ArePlaced l.points l.places.items l.point-index
