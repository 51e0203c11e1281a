use Rattle.std.proofs.Common.{refl, [], get_or}
use Rattle.mesh_edges.proofs.EdgeCounts.{pairs_more}
use Rattle.mesh_edges.proofs.balance.sides_of.Goals as goal

pub loop-face-preserved : goal.loop-face-preserved
loop-face-preserved c =
    record {
      pairs =
          pairs_more c.args.faces.now c.loop-face.face-index _ _ _ _ (get_or c.args.faces.now c.loop-face.face-index [])
          c.loop-face-test.true refl c.loop-face.invariant.pairs c.in_ok-push_face.ensures.there c.in_ok-push_face.ensures.back;
      there_rising = c.in_ok-push_face.ensures.there_rising c.loop-face.invariant.there_rising;
      back_rising = c.in_ok-push_face.ensures.back_rising c.loop-face.invariant.back_rising;
    }
