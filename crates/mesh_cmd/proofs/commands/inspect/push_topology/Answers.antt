use Rattle.mesh_cmd.specs.Inspect.{topology_text}
use Rattle.mesh_cmd.proofs.Texts.{three_after}
use Rattle.mesh_cmd.proofs.commands.inspect.push_topology.Goals as goal

pub returns : goal.returns
unfolding topology_text
returns c =
    three_after _ _ _ _ _ _ _ c.in_ok-push_labelled.ensures c.in_ok-push_labelled-2.ensures c.in_ok-push_labelled-3.ensures
