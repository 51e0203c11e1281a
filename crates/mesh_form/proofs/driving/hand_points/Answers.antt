use Rattle.std.proofs.Common.{◌∙◌, ap, arith}
use Rattle.mesh_form.specs.Received.{Received}
use Rattle.mesh_form.proofs.Handed.{point_more}
use Rattle.mesh_form.proofs.driving.hand_points.Goals as goal

pub loop-point-preserved : goal.loop-point-preserved
loop-point-preserved g c =
    record {
      front = point_more _ _ _ _ _ c.loop-point.invariant.front (omega arith) c.point-item.is c.in_ok-hand_point.ensures.taken;
      due = ap (λ (r : Received). r.faces_due) c.in_ok-hand_point.ensures.taken ∙ c.loop-point.invariant.due;
      kind = c.in_ok-hand_point.ensures.kind ∙ c.loop-point.invariant.kind;
    }
