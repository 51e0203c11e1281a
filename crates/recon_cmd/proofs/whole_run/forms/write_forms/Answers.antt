use Rattle.std.proofs.Common.{◌≡◌, inl, inr, refl, string_bytes, arith}
use Rattle.mesh_form.specs.Received.{Received}
use Rattle.mesh_form.specs.declared.stage.Stage.TheVariants.{Ended}
use Rattle.recon_cmd.proofs.ExportReplies.{map_all_at, forms_more, forms_stopped, forms_said, forms_said_front}
use Rattle.recon_cmd.proofs.whole_run.forms.write_forms.Goals as goal

pub text_of-requires : goal.text_of-requires
text_of-requires g c =
    map_all_at (λ (r : Received). r.stage ≡ Ended) _ c.args.forms.now c.loop-k.k c.index-forms-k.result c.requires.ended
    (omega arith) c.index-forms-k.is

pub loop-k-preserved : goal.loop-k-preserved
loop-k-preserved g c =
    forms_more string_bytes _ c.args.outputs.now c.args.forms.now c.loop-k.k c.index-outputs-k.result c.index-forms-k.result _ _
    (g.H.Host.state c.args.host.now) (g.H.Host.state c.loop-k.host) (g.H.Host.state c.write_file.new.host)
    c.requires.as_many (omega arith) c.index-outputs-k.is c.index-forms-k.is c.as_str.ensures.value c.text_of.ensures
    c.loop-k.invariant c.in-Ok.ensures.written

pub returns-in-Err : goal.returns-in-Err
returns-in-Err g c = inr (
  refl,
  forms_stopped string_bytes _ c.args.outputs.now c.args.forms.now c.loop-k.k c.index-outputs-k.result c.index-forms-k.result _
      _ c.args.line.now (g.H.Host.state c.args.host.now) (g.H.Host.state c.loop-k.host)
      (g.H.Host.state c.write_file.new.host)
      c.requires.as_many (omega arith) c.index-outputs-k.is c.index-forms-k.is c.as_str.ensures.value c.text_of.ensures
      c.loop-k.invariant c.in-Err.ensures.failed,
)

pub returns-in-Ok-say_all : goal.returns-in-Ok-say_all
returns-in-Ok-say_all g c = inl (
  refl,
  forms_said string_bytes _ c.args.outputs.now c.args.forms.now c.loop-k.k c.args.line.now (g.H.Host.state c.args.host.now)
      (g.H.Host.state c.loop-k.host) (g.H.Host.state c.say_all.new.host)
      c.requires.as_many (omega arith) c.loop-k.invariant c.in-Ok-say_all.ensures.said,
)

pub returns-in-Err-say_all : goal.returns-in-Err-say_all
returns-in-Err-say_all g c = inr (
  refl,
  forms_said_front string_bytes _ c.args.outputs.now c.args.forms.now c.loop-k.k c.args.line.now
      (g.H.Host.state c.args.host.now) (g.H.Host.state c.loop-k.host) (g.H.Host.state c.say_all.new.host)
      c.requires.as_many (omega arith) c.loop-k.invariant c.in-Err-say_all.ensures.failed,
)
