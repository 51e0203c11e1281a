use Rattle.flow_net.specs.Firsts.{NoneBelow}
use Rattle.recon_check.specs.ByRows.{IsOverSinkAt}
use Rattle.recon_check.proofs.limits.first_over_sink.Given as goal

abbrev pub invariant-loop-place : goal.invariant-loop-place
invariant-loop-place g l = NoneBelow l.place (IsOverSinkAt (g.N.FlowNetwork.numbered l.net) l.nodes l.flow.on_sink)
