use Rattle.flow_net.specs.Firsts.{NoneBelow}
use Rattle.recon_check.specs.ByRows.{IsFixedAt}
use Rattle.recon_check.proofs.limits.first_fixed.Given as goal

abbrev pub invariant-loop-place : goal.invariant-loop-place
invariant-loop-place g l = NoneBelow l.place (IsFixedAt (g.N.FlowNetwork.numbered l.net) l.nodes)
