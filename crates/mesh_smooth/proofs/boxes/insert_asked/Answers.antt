use Rattle.mesh_smooth.proofs.Passes.{boxes_more}
use Rattle.std.proofs.Common.{arith}
use Rattle.mesh_smooth.proofs.boxes.insert_asked.Goals as goal

pub loop-f-preserved : goal.loop-f-preserved
loop-f-preserved c =
    record {
      room = omega (arith, c.loop-f.invariant.room, c.insert_face.ensures.same);
      insert = boxes_more c.args.points.now c.args.faces.now c.args.asked.now c.loop-f.tree c.insert_face.new.tree c.loop-f.f
          c.insert_face.ensures.insert c.insert_face.ensures.kept c.loop-f.invariant.insert;
    }
