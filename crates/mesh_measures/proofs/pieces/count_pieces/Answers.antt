use Rattle.std.proofs.Common.{arith}
use Rattle.mesh_edges.proofs.Things.{nothing_below, number_next}
use Rattle.mesh_measures.specs.Pieces.{IsFirstOfPiece}
use Rattle.mesh_measures.proofs.pieces.count_pieces.Goals as goal

pub loop-f-init : goal.loop-f-init
loop-f-init c = record { few = omega arith; many = nothing_below (IsFirstOfPiece c.args.faces.now) }

pub loop-f-preserved : goal.loop-f-preserved
loop-f-preserved c =
    record {
      few = grind arith;
      many =
          number_next (IsFirstOfPiece c.args.faces.now) c.loop-f.f c.loop-f.count _ c.is_first_of_piece-hit.result
          c.loop-f.invariant.many c.next_count-count.ensures c.is_first_of_piece-hit.ensures.yes
          c.is_first_of_piece-hit.ensures.no;
    }
