use Rattle.std.proofs.Common.{[], refl}
use Rattle.mesh_join.proofs.join.close.Goals as goal

pub returns-then-branch-clause-closed : goal.returns-then-branch-clause-closed
returns-then-branch-clause-closed c =
    ([], record { join = c.in_ok-first.ensures.join; balanced = c.in_ok-is_closed.ensures.0 c.if-branch.true }, refl)
