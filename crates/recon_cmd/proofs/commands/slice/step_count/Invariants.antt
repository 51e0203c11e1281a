use Rattle.std.proofs.Common.{◌≡◌, take}
use Rattle.recon_cmd.proofs.StepCounts.{steps_in}
use Rattle.recon_cmd.proofs.commands.slice.step_count.Given as goal

abbrev pub invariant-loop-ring : goal.invariant-loop-ring
invariant-loop-ring l = l.count ≡ steps_in (take l.ring-index l.rings)
