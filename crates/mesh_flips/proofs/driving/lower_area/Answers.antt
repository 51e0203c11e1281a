use Rattle.mesh_flips.proofs.Chains.{unchanged, changed_on}
use Rattle.mesh_flips.proofs.driving.lower_area.Goals as goal

pub returns-in_err-wait_for_all-clause-flipped : goal.returns-in_err-wait_for_all-clause-flipped
returns-in_err-wait_for_all-clause-flipped c = unchanged _ _

pub loop-init : goal.loop-init
loop-init c = record { flipped = unchanged _ _; ready = c.requires }

pub returns-in_err-step_down-clause-flipped : goal.returns-in_err-step_down-clause-flipped
returns-in_err-step_down-clause-flipped c = changed_on _ _ _ _ c.loop.invariant.flipped c.step_down.ensures.flipped

pub returns-then-not-branch-clause-flipped : goal.returns-then-not-branch-clause-flipped
returns-then-not-branch-clause-flipped c = changed_on _ _ _ _ c.loop.invariant.flipped c.step_down.ensures.flipped

pub loop-preserved : goal.loop-preserved
loop-preserved c =
    record {
      flipped = changed_on _ _ _ _ c.loop.invariant.flipped c.step_down.ensures.flipped;
      ready = c.step_down.ensures.ready;
    }
