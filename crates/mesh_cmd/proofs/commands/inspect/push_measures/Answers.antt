use Rattle.std.proofs.Common.{◌++◌, ℤ, ap, ◌∙◌, FitsSigned, rules}
use Rattle.std.proofs.lemmas.Int.{to_z-of_z}
use mir.Syntax.{w128}
use Rattle.mesh_cmd.specs.Inspect.{measures_text, volume_text}
use Rattle.mesh_cmd.proofs.Texts.{five_after}
use Rattle.mesh_cmd.proofs.commands.inspect.push_measures.Goals as goal

pub returns : goal.returns
unfolding measures_text
returns c =
    let fits : FitsSigned w128 c.args.measures.six_volume = search rules in
    five_after _ _ _ _ _ _ _ _ _ _ _ c.in_ok-push_closed.ensures c.in_ok-push_topology.ensures c.in_ok-push_labelled.ensures
    c.in_ok-push_crossings.ensures (c.in_ok-push_volume.ensures
    ∙ ap (λ (v : ℤ). c.push_crossings.new.line.items ++ volume_text v) (to_z-of_z w128 c.args.measures.six_volume fits))
