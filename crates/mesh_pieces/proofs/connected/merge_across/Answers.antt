use Rattle.std.proofs.Common.{length}
use Rattle.mesh_pieces.proofs.Across.{merged_next, merged_none}
use Rattle.mesh_pieces.proofs.connected.merge_across.Goals as goal

pub loop-h-init : goal.loop-h-init
loop-h-init c = merged_none c.args.twins.now c.args.sets.now.parents.items (length c.args.faces.now) c.requires.count c.requires.apart

pub loop-h-preserved : goal.loop-h-preserved
loop-h-preserved c =
    merged_next c.args.faces.now c.args.twins.now c.requires.paired (length c.args.faces.now) c.loop-h.h c.loop-h.sets.parents.items
    c.merge.new.self.parents.items c.loop-h-test.true c.loop-h.invariant c.merge.ensures
