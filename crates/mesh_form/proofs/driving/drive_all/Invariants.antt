-- the forms before this one have received all, those from it on are fresh, and all are of the kinds that they were
use Rattle.std.proofs.Common.{◌≡◌, map}
use Rattle.mesh_form.proofs.Drivings.{AreDriven}
use Rattle.mesh_form.proofs.driving.drive_all.Given as goal

abbrev pub invariant-loop-k : goal.invariant-loop-k
invariant-loop-k g l = record {
  driven : AreDriven l.k (map (λ form. (goal.Form-dyn g (form.vtable, form.value)).received form.value) l.forms)
      l.mesh.points.items l.mesh.faces.items;
  kinds : map (λ form. form.vtable) l.forms ≡ map (λ form. form.vtable) l.fn.forms;
}
