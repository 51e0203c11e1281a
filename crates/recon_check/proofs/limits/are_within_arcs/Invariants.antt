use Rattle.std.proofs.Common.{ℕ, ◌<◌, ◌≤◌, get_or}
use Rattle.recon_check.proofs.limits.are_within_arcs.Given as goal

abbrev pub invariant-loop-arc : goal.invariant-loop-arc
invariant-loop-arc g l = (j : ℕ) → j < l.arc → get_or l.flow.on_arc j 0 ≤ (g.N.FlowNetwork.numbered l.net).capacity j
