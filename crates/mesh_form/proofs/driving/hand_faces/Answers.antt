use Rattle.std.proofs.Common.{◌∙◌, arith}
use Rattle.mesh_form.proofs.Handed.{face_more}
use Rattle.mesh_form.proofs.driving.hand_faces.Goals as goal

pub loop-face-preserved : goal.loop-face-preserved
loop-face-preserved g c =
    record {
      front = face_more _ _ _ _ _ c.loop-face.invariant.front (omega arith) c.in_ok-hand_face.ensures.taken;
      kind = c.in_ok-hand_face.ensures.kind ∙ c.loop-face.invariant.kind;
    }
