use Rattle.solid_slice.proofs.Closed.{closed_is_sliced}
use Rattle.solid_slice.proofs.laws.closed_meshes_are_sliced.Goals as goal

pub returns : goal.returns
returns c = closed_is_sliced
