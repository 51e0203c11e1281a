use Rattle.line_text.proofs.Kept.{OnErr-holds, front_of_more, front_of_front}
use Rattle.mesh_ply.proofs.text.push_parts.Goals as goal

pub returns-in_err-push_points-clause-kept : goal.returns-in_err-push_points-clause-kept
returns-in_err-push_points-clause-kept c =
    OnErr-holds _ _
    (front_of_front _ _ _
    (front_of_front _ _ _
    (front_of_front _ _ _ (front_of_more _ _ _ c.in_ok-push_counted.ensures.ok)
    (front_of_more _ _ _ c.in_ok-push_counted-2.ensures.ok)) (front_of_more _ _ _ c.in_ok-extend_from_slice.ensures.items))
    c.in_err-push_points.ensures.kept)

pub returns-in_err-push_faces-clause-kept : goal.returns-in_err-push_faces-clause-kept
returns-in_err-push_faces-clause-kept c =
    OnErr-holds _ _
    (front_of_front _ _ _
    (front_of_front _ _ _
    (front_of_front _ _ _
    (front_of_front _ _ _ (front_of_more _ _ _ c.in_ok-push_counted.ensures.ok)
    (front_of_more _ _ _ c.in_ok-push_counted-2.ensures.ok)) (front_of_more _ _ _ c.in_ok-extend_from_slice.ensures.items))
    (front_of_more _ _ _ c.in_ok-push_points.ensures.ok)) c.in_err-push_faces.ensures.kept)
