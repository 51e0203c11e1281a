use Rattle.std.proofs.Common.{ℕ, ◌<◌}
use Rattle.flow_net.specs.Nets.{IsValidArc, arc_at}
use Rattle.flow_net.proofs.validity.are_valid_arcs.Given as goal

abbrev pub invariant-loop-place : goal.invariant-loop-place
invariant-loop-place l = (j : ℕ) → j < l.place → IsValidArc l.fixed l.arcs j (arc_at l.arcs j)
