-- All forms so far are fresh and write PLY, and there are no more than are asked for.
use Rattle.std.proofs.Common.{◌≤◌, ◌-◌, length, All}
use Rattle.recon_main.proofs.Meshes.{IsFreshPly}
use Rattle.recon_main.proofs.ends.run_in_meshes.OwnLists.{own-1}
use Rattle.recon_main.proofs.ends.run_in_meshes.Given as goal

abbrev pub invariant-loop-alloc : goal.invariant-loop-alloc
invariant-loop-alloc g l = record {
  some : length l.forms.items ≤ l.entries;
  ply : All (IsFreshPly (λ form. form.vtable) (λ form. (own-1.entry form.vtable).1.received form.value)
      (λ form. (own-1.entry form.vtable).1.text_of form.value)) l.forms.items;
}

abbrev pub decreases-loop-alloc : goal.decreases-loop-alloc
decreases-loop-alloc g l = l.entries - length l.forms.items
