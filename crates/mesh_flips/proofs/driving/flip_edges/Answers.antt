use Rattle.mesh_flips.proofs.Chains.{unchanged, changed_on}
use Rattle.mesh_flips.proofs.driving.flip_edges.Goals as goal

pub returns-in_err-tree-clause-flipped : goal.returns-in_err-tree-clause-flipped
returns-in_err-tree-clause-flipped c = unchanged _ _

pub returns-in_err-hints-clause-flipped : goal.returns-in_err-hints-clause-flipped
returns-in_err-hints-clause-flipped c = unchanged _ _

pub returns-in_err-longest-clause-flipped : goal.returns-in_err-longest-clause-flipped
returns-in_err-longest-clause-flipped c = unchanged _ _

pub loop-least-init : goal.loop-least-init
loop-least-init c = record { flipped = c.lower_area.ensures.flipped; ready = c.lower_area.ensures.ready }

pub returns-in_err-flip_pass-clause-flipped : goal.returns-in_err-flip_pass-clause-flipped
returns-in_err-flip_pass-clause-flipped c =
    changed_on _ _ _ _ c.loop-least.invariant.flipped c.flip_pass.ensures.flipped

pub loop-least-preserved : goal.loop-least-preserved
loop-least-preserved c =
    record {
      flipped = changed_on _ _ _ _ c.loop-least.invariant.flipped c.flip_pass.ensures.flipped;
      ready = c.flip_pass.ensures.ready;
    }
