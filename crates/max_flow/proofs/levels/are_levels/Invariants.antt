use Rattle.std.proofs.Common.{ℕ, ◌≡◌, ◌<◌, true}
use Rattle.flow_net.specs.Nets.{flag_at}
use Rattle.max_flow.specs.Paths.{HasRoom}
use Rattle.max_flow.specs.Levels.{IsOnward}
use Rattle.max_flow.proofs.levels.are_levels.Given as goal

abbrev pub invariant-loop-node : goal.invariant-loop-node
invariant-loop-node g l = record {
  ends : (v : ℕ) → v < l.node → HasRoom (g.N.FlowNetwork.numbered l.net) l.flow v → flag_at l.marked v ≡ true;
  onward : (v : ℕ) → v < l.node → flag_at l.marked v ≡ true → IsOnward (g.N.FlowNetwork.numbered l.net) l.flow l.marked l.level v;
}
