use Rattle.flow_net.specs.Firsts.{NoneBelow}
use Rattle.recon_check.specs.ByRows.{IsOutsideAt}
use Rattle.recon_check.proofs.limits.first_outside.Given as goal

abbrev pub invariant-loop-place : goal.invariant-loop-place
invariant-loop-place l = NoneBelow l.place (IsOutsideAt l.labels.inside l.nodes)
