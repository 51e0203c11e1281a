use Rattle.std.proofs.Common.{arith}
use Rattle.mesh_edges.specs.Edges.{face_at}
use Rattle.mesh_edges.proofs.Things.{number_next}
use Rattle.mesh_measures.specs.Flat.{IsFlat}
use Rattle.mesh_measures.proofs.flat.count_flat.Goals as goal

pub loop-i-preserved : goal.loop-i-preserved
loop-i-preserved c =
    record {
      few = grind arith;
      many =
          number_next (λ f. IsFlat c.args.points.now (face_at c.args.faces.now f)) c.loop-i.i c.loop-i.count _
          c.is_flat_at-hit.result c.loop-i.invariant.many c.next_count-count.ensures c.is_flat_at-hit.ensures.yes
          c.is_flat_at-hit.ensures.no;
    }
