use Rattle.line_text.proofs.Kept.{OnErr-holds, front_of_more, front_of_front}
use Rattle.mesh_ply.proofs.text.push_points.Goals as goal

pub returns-in_err-push_point-clause-kept : goal.returns-in_err-push_point-clause-kept
returns-in_err-push_point-clause-kept c =
    OnErr-holds _ _ (front_of_front _ _ _ (front_of_more _ _ _ c.loop-point.invariant) c.in_err-push_point.ensures.kept)
