use Rattle.mesh_cmd.specs.Crossings.{crossings_text}
use Rattle.mesh_cmd.proofs.Texts.{three_after}
use Rattle.mesh_cmd.proofs.crossings.push_crossings.Goals as goal

pub returns : goal.returns
unfolding crossings_text
returns c =
    three_after _ _ _ _ _ _ _ c.in_ok-push_labelled.ensures c.in_ok-push_labelled-2.ensures c.in_ok-push_first_pair.ensures
