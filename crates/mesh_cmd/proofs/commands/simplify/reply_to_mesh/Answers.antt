-- A simplified mesh is written, or its error is said.
use Rattle.std.proofs.Common.{inl, inr}
use Rattle.command_run.specs.Steps.{surface_of}
use Rattle.mesh_cmd.proofs.commands.simplify.reply_to_mesh.Goals as goal

pub returns-in_ok-reply_of_mesh-in-Ok : goal.returns-in_ok-reply_of_mesh-in-Ok
returns-in_ok-reply_of_mesh-in-Ok c =
    inl (record {
      simplified = surface_of c.in-Ok.new;
      printed = record { valid = c.in-Ok.ensures.valid; boxed = c.in-Ok.ensures.boxed };
      so = c.in-Ok.ensures.simplified;
      near = c.in-Ok.ensures.near;
      is = c.in_ok-reply_of_mesh-in-Ok.ensures;
    })

pub returns-in_ok-reply_to_error-in-Err : goal.returns-in_ok-reply_to_error-in-Err
returns-in_ok-reply_to_error-in-Err c =
    inr (c.in_ok-reply_to_error-in-Err.ensures (surface_of c.args.mesh) c.in-Err.ensures.why)
