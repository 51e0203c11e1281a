use Rattle.std.proofs.Common.{inl, refl, ◌∙◌}
use Rattle.scan_rows.specs.Views.{shown_of}
use Rattle.sweep.proofs.Handings.{fronts_of_entries}
use Rattle.recon_cmd.proofs.SweepReplies.{as_long, handed}
use Rattle.recon_cmd.proofs.commands.sweeping.hand_out.Goals as goal

pub write_forms-requires-clause-ended : goal.write_forms-requires-clause-ended
write_forms-requires-clause-ended g c = λ k d l. (c.in-Ok.ensures.all k d l).all.stage

pub returns-in-Err-line_of_sweep-clause-handed : goal.returns-in-Err-line_of_sweep-clause-handed
returns-in-Err-line_of_sweep-clause-handed g c = inl (refl, fronts_of_entries _ _ _ _ _ c.in-Ok.ensures.all, refl)

pub returns-in-Ok-line_of_sweep-clause-handed : goal.returns-in-Ok-line_of_sweep-clause-handed
returns-in-Ok-line_of_sweep-clause-handed g c =
    handed c.args.words.now (shown_of c.args.scan.now) _ c.write_forms.result _ _ _ _ c.in-Ok.costs.first c.in-Ok.costs.last _
    c.requires.fits.as_many (as_long (λ form. form.vtable) _ _ _ c.hand_surfaces_watched-handed.ensures.kinds) c.in-Ok.ensures.all
    c.in-Ok.ensures.first c.in-Ok.ensures.last (c.deref.ensures.value ∙ c.in-Ok-line_of_sweep.ensures) c.write_forms.ensures
