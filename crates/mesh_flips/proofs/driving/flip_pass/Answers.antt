use Rattle.mesh_flips.proofs.Chains.{unchanged, changed_on}
use Rattle.mesh_flips.proofs.driving.flip_pass.Goals as goal

pub returns-in_err-wait_again-clause-flipped : goal.returns-in_err-wait_again-clause-flipped
returns-in_err-wait_again-clause-flipped c = unchanged _ _

pub loop-init : goal.loop-init
loop-init c = record { flipped = unchanged _ _; ready = c.requires }

pub loop-preserved : goal.loop-preserved
loop-preserved c =
    record {
      flipped = changed_on _ _ _ _ c.loop.invariant.flipped c.try_flip.ensures.flipped;
      ready = c.try_flip.ensures.ready;
    }

pub returns-in_err-try_flip-in-Some-clause-flipped : goal.returns-in_err-try_flip-in-Some-clause-flipped
returns-in_err-try_flip-in-Some-clause-flipped c = changed_on _ _ _ _ c.loop.invariant.flipped c.try_flip.ensures.flipped
