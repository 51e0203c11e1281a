use Rattle.recon_check.proofs.Leasts.{IsLeastSoFar}
use Rattle.recon_check.proofs.balance.first_by.Given as goal

abbrev pub invariant-loop-node : goal.invariant-loop-node
invariant-loop-node l = IsLeastSoFar l.net l.flow l.node l.found
