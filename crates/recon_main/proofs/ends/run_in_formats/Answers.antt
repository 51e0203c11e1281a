use Rattle.std.proofs.Common.{◌≡◌, ◌∙◌, refl, ap, map, length, string_bytes}
use Rattle.mesh_form.specs.Texts.{off_text, obj_text}
use Rattle.mesh_ply.specs.Texts.{mesh_text}
use Rattle.recon_main.proofs.Formats.{ran_on, by_kinds, three_pushed, at_kind}
use Rattle.recon_main.proofs.ends.run_in_formats.OwnLists.{own-1}
use Rattle.recon_main.proofs.ends.run_in_formats.Goals as goal

pub returns-clause-ran : goal.returns-clause-ran
returns-clause-ran g c =
    let three =
    three_pushed _ _ _ _ _ c.into_dyn_box.result c.into_dyn_box-in_ok-new-2.result c.into_dyn_box-in_ok-new-3.result
    c.new-forms.ensures.items c.in_ok-push.ensures.items c.in_ok-push-2.ensures.items c.in_ok-push-3.ensures.items
    c.deref_mut.ensures.value in
    ran_on (map string_bytes c.args.words.now) (length c.deref_mut.result.now) (ap length three) c.run_forms_within.result
    (g.H.Host.state c.args.host.now) (g.H.Host.state c.run_forms_within.new.host) _ _ _
    (by_kinds (λ b. b.vtable) _ _ c.into_dyn_box.result.vtable c.into_dyn_box-in_ok-new-2.result.vtable
    c.into_dyn_box-in_ok-new-3.result.vtable c.run_forms_within.new.forms
    (c.run_forms_within.ensures.kinds ∙ ap (map (λ b. b.vtable)) three)
    (λ b is. at_kind
    (λ i x. (own-1.entry i).1.text_of x ≡ mesh_text ((own-1.entry i).1.received x).points ((own-1.entry i).1.received x).faces)
    _ c.into_dyn_box.result.vtable c.into_dyn_box.ensures.0 (λ x. refl) b.vtable b.value is)
    (λ b is. at_kind
    (λ i x. (own-1.entry i).1.text_of x ≡ off_text ((own-1.entry i).1.received x).points ((own-1.entry i).1.received x).faces) _
    c.into_dyn_box-in_ok-new-2.result.vtable c.into_dyn_box-in_ok-new-2.ensures.0 (λ x. refl) b.vtable b.value is)
    (λ b is. at_kind
    (λ i x. (own-1.entry i).1.text_of x ≡ obj_text ((own-1.entry i).1.received x).points ((own-1.entry i).1.received x).faces) _
    c.into_dyn_box-in_ok-new-3.result.vtable c.into_dyn_box-in_ok-new-3.ensures.0 (λ x. refl) b.vtable b.value is))
    c.requires.others c.run_forms_within.ensures.exported c.run_forms_within.ensures.ran
