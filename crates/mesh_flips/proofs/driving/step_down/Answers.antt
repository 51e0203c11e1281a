use Rattle.mesh_flips.proofs.Chains.{unchanged}
use Rattle.mesh_flips.proofs.driving.step_down.Goals as goal

pub returns-in_err-put_by_fall-clause-flipped : goal.returns-in_err-put_by_fall-clause-flipped
returns-in_err-put_by_fall-clause-flipped c = unchanged _ _

pub returns-in-Some-clause-flipped : goal.returns-in-Some-clause-flipped
returns-in-Some-clause-flipped c = unchanged _ _

pub returns-in_default-next-clause-flipped : goal.returns-in_default-next-clause-flipped
returns-in_default-next-clause-flipped c = unchanged _ _

pub returns-else-is_due-clause-flipped : goal.returns-else-is_due-clause-flipped
returns-else-is_due-clause-flipped c = unchanged _ _
