use Rattle.recon_check.proofs.Leasts.{balanced_more, unbalanced_more}
use Rattle.recon_check.proofs.balance.first_by.Goals as goal
use Rattle.recon_check.proofs.balance.first_by.Goals.{in-Some, in_default}

pub loop-node-preserved : goal.loop-node-preserved
loop-node-preserved c =
    elim c.match-unbalance_at.branch [
      | in-Some w ↦
          rw w.found-is
          (unbalanced_more c.args.net.now c.args.flow.now c.loop-node.node c.loop-node.found w.in-Some.other w.first_of.result
          w.in-Some.ensures.some w.first_of.ensures.either w.first_of.ensures.before w.first_of.ensures.least
          c.loop-node.invariant)
      | in_default w ↦
          rw w.found-is
          (balanced_more c.args.net.now c.args.flow.now c.loop-node.node c.loop-node.found w.in_default.ensures.none
          c.loop-node.invariant)
    ]
