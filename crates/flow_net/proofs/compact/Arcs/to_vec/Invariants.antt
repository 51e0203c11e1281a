use Rattle.std.proofs.Common.{◌≡◌, take}
use Rattle.flow_net.proofs.compact.Arcs.to_vec.Given as goal

abbrev pub invariant-loop-place : goal.invariant-loop-place
invariant-loop-place l = l.items.items ≡ take l.place l.self
