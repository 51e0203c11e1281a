use Rattle.std.proofs.Common.{arith}
use Rattle.recon_cmd.proofs.StepCounts.{steps_more, steps_within}
use Rattle.recon_cmd.proofs.commands.slice.step_count.Goals as goal

pub overflow_add-count : goal.overflow_add-count
overflow_add-count c =
    omega (
      arith,
      c.loop-ring.invariant,
      c.len.ensures,
      c.requires,
      steps_within c.args.rings.now c.loop-ring.ring-index c.ring-item.result c.loop-ring-test.true c.ring-item.is,
    )

pub loop-ring-preserved : goal.loop-ring-preserved
loop-ring-preserved c =
    omega (
      arith,
      c.loop-ring.invariant,
      c.len.ensures,
      steps_more c.args.rings.now c.loop-ring.ring-index c.ring-item.result c.loop-ring-test.true c.ring-item.is,
    )
