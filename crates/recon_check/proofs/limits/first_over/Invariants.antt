use Rattle.flow_net.specs.Firsts.{NoneBelow}
use Rattle.recon_check.specs.ByRows.{IsOverAt}
use Rattle.recon_check.proofs.limits.first_over.Given as goal

abbrev pub invariant-loop-place : goal.invariant-loop-place
invariant-loop-place g l = NoneBelow l.place (IsOverAt (g.N.FlowNetwork.numbered l.net) l.arcs l.flow.on_arc)
