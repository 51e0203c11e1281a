use Rattle.std.proofs.Common.{arith}
use Rattle.mesh_edges.proofs.Things.{nothing_below, number_next}
use Rattle.mesh_measures.specs.Sides.{IsOddSide}
use Rattle.mesh_measures.proofs.manifolds.count_odd_sides.Goals as goal

pub loop-i-init : goal.loop-i-init
loop-i-init c = record { few = omega arith; many = nothing_below (IsOddSide c.args.sides.now) }

pub loop-i-preserved : goal.loop-i-preserved
loop-i-preserved c =
    record {
      few = grind arith;
      many =
          number_next (IsOddSide c.args.sides.now) c.loop-i.i c.loop-i.count _ c.is_odd_side-hit.result c.loop-i.invariant.many
          c.next_count-count.ensures c.is_odd_side-hit.ensures.yes c.is_odd_side-hit.ensures.no;
    }
