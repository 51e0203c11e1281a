use Rattle.mesh_join.proofs.AllPlaces.{never_fall}
use Rattle.mesh_join.proofs.all_places.sort.Goals as goal

pub returns-clause-sorted : goal.returns-clause-sorted
returns-clause-sorted c = never_fall _ c.sort_unstable.ensures.sorted
