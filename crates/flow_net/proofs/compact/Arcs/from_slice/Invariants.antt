use Rattle.std.proofs.Common.{◌≡◌, take}
use Rattle.flow_net.proofs.compact.Arcs.from_slice.Given as goal

abbrev pub invariant-loop-arc : goal.invariant-loop-arc
invariant-loop-arc l = l.arcs ≡ take l.arc-index l.items
