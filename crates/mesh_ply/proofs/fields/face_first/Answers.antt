use Rattle.mesh_ply.proofs.MeshForms.{no_face_among}
use Rattle.mesh_ply.proofs.fields.face_first.Goals as goal

pub returns-else-is_among-clause-none : goal.returns-else-is_among-clause-none
returns-else-is_among-clause-none c =
    no_face_among c.args.text.now c.in_ok-rest.rest.now c.in_ok-face.rest.now c.in_ok-face.face c.args.count c.requires
    c.in_ok-rest.ensures.some c.in_ok-face.ensures.some.0 c.in_ok-face.ensures.some.1 c.if-is_among.ensures.no
