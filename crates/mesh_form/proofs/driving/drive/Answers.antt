use Rattle.line_text.proofs.Kept.{OnErr-holds}
use Rattle.mesh_form.proofs.Handed.{prefix_of_refused, all_of_faces}
use Rattle.mesh_form.proofs.driving.drive.Goals as goal

pub returns-in_err-end-clause-prefix : goal.returns-in_err-end-clause-prefix
returns-in_err-end-clause-prefix g c =
    OnErr-holds _ _
    (prefix_of_refused _ _ _ _ _ _ c.in_ok-hand_faces.ensures.all c.deref-2.ensures.value c.deref-3.ensures.value
    c.in_err-end.ensures.kept)

pub returns-clause-all : goal.returns-clause-all
returns-clause-all g c =
    all_of_faces _ _ _ _ _ _ c.in_ok-hand_faces.ensures.all c.deref-2.ensures.value c.deref-3.ensures.value
    c.in_ok-end.ensures.ended
