use Rattle.mesh_flips.proofs.Chains.{unchanged}
use Rattle.mesh_flips.proofs.driving.try_flip.Goals as goal

pub returns-in_default-clause-flipped : goal.returns-in_default-clause-flipped
returns-in_default-clause-flipped c = unchanged _ _

pub returns-then-weighed-least-clause-flipped : goal.returns-then-weighed-least-clause-flipped
returns-then-weighed-least-clause-flipped c = unchanged _ _

pub returns-in_err-is_free-clause-flipped : goal.returns-in_err-is_free-clause-flipped
returns-in_err-is_free-clause-flipped c = unchanged _ _

pub returns-then-not-branch-clause-flipped : goal.returns-then-not-branch-clause-flipped
returns-then-not-branch-clause-flipped c = unchanged _ _
