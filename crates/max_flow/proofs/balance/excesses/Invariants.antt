use Rattle.max_flow.proofs.Additions.{AreRunning}
use Rattle.max_flow.proofs.balance.excesses.Given as goal

abbrev pub invariant-loop-arc : goal.invariant-loop-arc
invariant-loop-arc g l =
    let net = g.N.FlowNetwork.numbered l.net in
    AreRunning net.to net.from l.flow.on_arc net.node_count l.arc l.arc l.left l.left l.sums.items
