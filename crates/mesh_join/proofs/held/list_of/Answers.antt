use Rattle.std.proofs.Common.{arith, sym, ◌∙◌}
use Rattle.mesh_join.proofs.Tiles.{list_at}
use Rattle.mesh_join.proofs.held.list_of.Goals as goal

pub returns : goal.returns
returns c =
    c.deref.ensures.value ∙ sym (list_at c.args.tiles.now c.args.i c.index-tiles-i.result (omega arith))
