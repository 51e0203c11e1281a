use Rattle.std.proofs.Common.{ℕ, ◌≡◌, ◌<◌, ◌+◌, false, get_or}
use Rattle.flow_net.specs.NumberedFlows.{amount_in, amount_out}
use Rattle.max_flow.proofs.validity.are_even.Given as goal

abbrev pub invariant-loop-node : goal.invariant-loop-node
invariant-loop-node g l =
    let net = g.N.FlowNetwork.numbered l.net in
    ((v : ℕ) → v < l.node → net.is_fixed v ≡ false →
    amount_in net l.flow.on_arc v ≡ amount_out net l.flow.on_arc v + get_or l.flow.on_sink v 0)
