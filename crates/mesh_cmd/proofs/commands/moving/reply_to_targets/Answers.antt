-- A moved mesh is written, or it is said why not: the number of targets, or an error of `finish`.
use Rattle.std.proofs.Common.{ap, arith, inl, inr, length, refl, List, ◌∙◌}
use Rattle.geo_sign.specs.Point.{Point}
use Rattle.command_run.specs.Answers.{invalid}
use Rattle.command_run.specs.Replies.{answer_of}
use Rattle.command_run.specs.Steps.{surface_of}
use Rattle.mesh_cmd.specs.Moving.{after_two, miscounted_line}
use Rattle.mesh_cmd.proofs.commands.moving.reply_to_targets.Goals as goal

pub returns-then-len : goal.returns-then-len
returns-then-len c =
    inr (inl (record {
      moved = surface_of c.in-Ok.moved.mesh;
      fine = c.in-Ok.moved.fine;
      so = c.in-Ok.ensures.finished;
      other =
          λ e.
          c.if-len.true
          (omega (arith, e, c.len.ensures, c.len-in-Ok.ensures, c.in-Ok.moved.mesh.points.ok.0, c.args.targets.now.points.ok.0));
      is =
          c.invalid_input.ensures 2
          ∙ ap (invalid 2)
          (c.in_ok-line-in-Ok.ensures
          ∙ (ap (λ (ts : List Point). miscounted_line (length ts) (length c.deref-then-len-2.result.now)) c.deref-then-len.ensures.value
          ∙ ap (λ (ps : List Point). miscounted_line (length c.args.targets.now.points.items) (length ps))
          c.deref-then-len-2.ensures.value));
    }))

pub returns-in_ok-reply_of_mesh-in-Ok : goal.returns-in_ok-reply_of_mesh-in-Ok
returns-in_ok-reply_of_mesh-in-Ok c =
    inl (record {
      moved = surface_of c.in-Ok.moved.mesh;
      fine = c.in-Ok.moved.fine;
      printed = record { valid = c.in-Ok.ensures.valid; boxed = c.in-Ok.ensures.boxed c.requires.boxed };
      so = c.in-Ok.ensures.finished;
      count =
          omega
          (arith, c.if-len.false, c.len.ensures, c.len-in-Ok.ensures, c.in-Ok.moved.mesh.points.ok.0, c.args.targets.now.points.ok.0);
      is = ap after_two c.in_ok-reply_of_mesh-in-Ok.ensures;
    })

pub returns-in_ok-reply_to_error-in-Err : goal.returns-in_ok-reply_to_error-in-Err
returns-in_ok-reply_to_error-in-Err c =
    inr (inr (
      answer_of 1 c.in_ok-reply_to_error-in-Err.field-0,
      c.in_ok-reply_to_error-in-Err.ensures c.args.words.now.request.options (surface_of c.args.mesh) c.in-Err.ensures.why,
      refl,
    ))
