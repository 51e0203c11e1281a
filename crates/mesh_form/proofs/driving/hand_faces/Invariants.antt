use Rattle.std.proofs.Common.{◌≡◌}
use Rattle.mesh_form.specs.Received.{HasFaces}
use Rattle.mesh_form.proofs.driving.hand_faces.Given as goal

abbrev pub invariant-loop-face : goal.invariant-loop-face
invariant-loop-face g l = record {
  front : HasFaces l.face-index ((goal.Form-dyn g (l.form.vtable, l.form.value)).received l.form.value) l.points l.faces;
  kind : l.form.vtable ≡ l.fn.form.vtable;
}
