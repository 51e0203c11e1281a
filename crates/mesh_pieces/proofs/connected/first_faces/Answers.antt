use Rattle.std.proofs.Common.{length}
use Rattle.mesh_pieces.proofs.Across.{first_faces_are}
use Rattle.mesh_pieces.proofs.connected.first_faces.Goals as goal

pub returns : goal.returns
returns c =
    first_faces_are c.args.twins.now c.merge_across.new.sets.parents.items c.in_ok-firsts.firsts.items (length c.args.faces.now)
    c.merge_across.ensures c.in_ok-firsts.ensures.count c.in_ok-firsts.ensures.tops c.in_ok-firsts.ensures.least
