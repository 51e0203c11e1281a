-- The forms before this one have received the meshes of their entries, those from it on are fresh, and the sweep is at the weights
-- of the entry before this one.
use Rattle.std.proofs.Common.{◌≡◌, ◌-◌, map}
use Rattle.sweep.specs.Entries.{smoothing_of}
use Rattle.sweep.specs.Swept.{given_in}
use Rattle.sweep.proofs.Handings.{AreHanded}
use Rattle.sweep.proofs.handing.hand_rising.Given as goal

abbrev pub invariant-loop-k : goal.invariant-loop-k
invariant-loop-k g l = record {
  given : given_in l.sweep ≡ given_in l.fn.sweep;
  vote : l.sweep.settings.vote ≡ l.fn.sweep.settings.vote;
  smooth : l.sweep.settings.smooth ≡ smoothing_of l.fn.sweep.settings.smooth l.step (l.k - 1);
  handed : AreHanded (given_in l.fn.sweep) l.fn.sweep.settings.vote l.fn.sweep.settings.smooth l.step l.k
      (map (λ form. (goal.Form-dyn g (form.vtable, form.value)).received form.value) l.forms);
  kinds : map (λ form. form.vtable) l.forms ≡ map (λ form. form.vtable) l.fn.forms;
}
