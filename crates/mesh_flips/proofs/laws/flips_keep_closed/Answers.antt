use Rattle.mesh_flips.proofs.Kept.{flips_keep_excess, flips_keep_closed}
use Rattle.mesh_flips.proofs.laws.flips_keep_closed.Goals as goal

pub returns-clause-excess : goal.returns-clause-excess
returns-clause-excess c = flips_keep_excess

pub returns-clause-closed : goal.returns-clause-closed
returns-clause-closed c = flips_keep_closed
