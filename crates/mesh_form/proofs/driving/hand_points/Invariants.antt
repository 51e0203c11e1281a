use Rattle.std.proofs.Common.{◌≡◌}
use Rattle.mesh_form.specs.Received.{HasPoints}
use Rattle.mesh_form.proofs.driving.hand_points.Given as goal

abbrev pub invariant-loop-point : goal.invariant-loop-point
invariant-loop-point g l = record {
  front : HasPoints l.point-index ((goal.Form-dyn g (l.form.vtable, l.form.value)).received l.form.value) l.points;
  kind : l.form.vtable ≡ l.fn.form.vtable;
  due : ((goal.Form-dyn g (l.form.vtable, l.form.value)).received l.form.value).faces_due
      ≡ ((goal.Form-dyn g (l.fn.form.vtable, l.fn.form.value)).received l.fn.form.value).faces_due;
}
