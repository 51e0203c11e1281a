use Rattle.std.proofs.Common.{ℕ, ◌<◌, ◌≤◌, get_or}
use Rattle.flow_net.specs.Faults.{sink_limit}
use Rattle.flow_net.specs.Numbered.{network_by}
use Rattle.recon_check.proofs.limits.are_within_limits.Given as goal

abbrev pub invariant-loop-node : goal.invariant-loop-node
invariant-loop-node g l =
    (v : ℕ) → v < l.node → get_or l.flow.on_sink v 0 ≤ sink_limit (network_by (g.N.FlowNetwork.numbered l.net)) v
