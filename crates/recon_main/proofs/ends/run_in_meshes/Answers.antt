-- As many forms are made as the words ask for, all of one type, and then the run is that of the forms.
--
-- The forms so far are fresh and each writes what it has received as PLY: so it is of the one that was made, and it is
-- put into a box, which reads as it did (reads, at_kind). A run keeps what type each form is, so those that have
-- received a surface of the sweep write it as PLY (ply_written), which is what a run of `sweep` here promises
-- (swept_on).
use Rattle.std.proofs.Common.{◌≡◌, ◌∙◌, refl, ap, map, length, string_bytes, arith, inl}
use Rattle.std.proofs.lemmas.Grind.{common_steps}
use denote.Param.Object.{read_made}
use Rattle.mesh_form.specs.Received.{Received}
use Rattle.mesh_ply.specs.Texts.{mesh_text}
use Rattle.recon_main.proofs.Formats.{at_kind}
use Rattle.recon_main.proofs.Meshes.{fresh_made, ply_none, ply_more, ply_fresh, ply_written, swept_on}
use Rattle.recon_main.proofs.ends.run_in_meshes.OwnLists.{own-1}
use Rattle.recon_main.proofs.ends.run_in_meshes.Goals as goal

pub loop-alloc-init : goal.loop-alloc-init
loop-alloc-init g c = record {
  some = omega (arith, ap length c.new-forms.ensures.items);
  ply = ply_none _ _ _ _ c.new-forms.ensures.items;
}

pub loop-alloc-preserved : goal.loop-alloc-preserved
loop-alloc-preserved g c =
    let form = c.into_dyn_box.result in
    let value = c.in_ok-new.field-0.value in
    let reads : (own-1.entry form.vtable).1.received form.value ≡ (own-1.entry (inl tt)).1.received value =
    read_made own-1 (own-1.entry (inl tt)) (inl tt) refl Received (λ j x. j.1.received x) form.vtable form.value value
    c.into_dyn_box.ensures.1 in
    record {
      some = grind (arith, common_steps);
      ply =
          ply_more _ _ _ _ _ c.into_dyn_box.result c.in_ok-push.ensures.items c.loop-alloc.invariant.ply
          (record {
            is_fresh = fresh_made _ (reads ∙ (c.in_ok-new.ensures.ok ∙ c.new-form.ensures));
            of_kind = λ b is. at_kind
                (λ i x. (own-1.entry i).1.text_of x
                ≡ mesh_text ((own-1.entry i).1.received x).points ((own-1.entry i).1.received x).faces)
                _ c.into_dyn_box.result.vtable c.into_dyn_box.ensures.0 (λ x. refl) b.vtable b.value is;
          });
    }

pub run_forms_within-requires-clause-fresh : goal.run_forms_within-requires-clause-fresh
run_forms_within-requires-clause-fresh g c =
    ply_fresh _ _ _ _ _ c.deref_mut.ensures.value c.loop-alloc.invariant.ply

pub returns-clause-ran : goal.returns-clause-ran
returns-clause-ran g c =
    let full : length c.deref_mut.result.now ≡ c.args.entries =
    omega (
      arith,
      c.deref_mut.ensures.len,
      c.len.ensures,
      c.loop-alloc-test.false,
      c.loop-alloc.invariant.some,
      ap length c.deref_mut.ensures.value,
    ) in
    swept_on (map string_bytes c.args.words.now) (length c.deref_mut.result.now) c.args.entries c.requires.entries full
    c.run_forms_within.result (g.H.Host.state c.args.host.now) (g.H.Host.state c.run_forms_within.new.host) _ _ _
    (ply_written (λ b. b.vtable) _ _ _ _ c.run_forms_within.new.forms c.deref_mut.ensures.value c.run_forms_within.ensures.kinds
    c.loop-alloc.invariant.ply)
    c.run_forms_within.ensures.swept c.run_forms_within.ensures.ran
