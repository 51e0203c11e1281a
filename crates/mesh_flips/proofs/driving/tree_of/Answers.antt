use Rattle.std.proofs.Common.{arith}
use Rattle.mesh_flips.proofs.Turning.{insert_face}
use Rattle.mesh_flips.proofs.driving.tree_of.Goals as goal

pub loop-i-preserved : goal.loop-i-preserved
loop-i-preserved c =
    record {
      room = omega (arith, c.loop-i.invariant.room, c.insert.ensures.same);
      insert = insert_face _ _ c.loop-i.tree c.insert.new.self c.loop-i.i c.hull_of.result c.hull_of.ensures c.insert.ensures.insert c.insert.ensures.kept c.loop-i.invariant.insert;
    }
