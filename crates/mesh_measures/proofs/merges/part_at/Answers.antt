use Rattle.std.proofs.Common.{◌∙◌, sym}
use Rattle.mesh_measures.proofs.Linked.{part_is}
use Rattle.mesh_measures.proofs.merges.part_at.Goals as goal

pub returns : goal.returns
returns c = c.part_of.ensures ∙ sym (part_is c.args.part c.args.sides.now c.args.i _ c.requires)
