use Rattle.line_text.proofs.Kept.{OnErr-holds, front_of_more, front_of_front}
use Rattle.mesh_ply.proofs.text.push_faces.Goals as goal

pub returns-in_err-push_face-clause-kept : goal.returns-in_err-push_face-clause-kept
returns-in_err-push_face-clause-kept c =
    OnErr-holds _ _ (front_of_front _ _ _ (front_of_more _ _ _ c.loop-face.invariant) c.in_err-push_face.ensures.kept)
