use Rattle.solution.specs.Solutions.{surface_of}
use Rattle.recon_cmd.proofs.SliceReplies.{refuses_slice}
use Rattle.recon_cmd.proofs.commands.slice.reply_to_mesh.Goals as goal

pub returns-in_ok-line-in-Err-Unbalanced : goal.returns-in_ok-line-in-Err-Unbalanced
returns-in_ok-line-in-Err-Unbalanced c =
    refuses_slice c.args.output.now c.args.height (surface_of c.args.mesh.now) c.in-Err-Unbalanced.field-0
    c.in-Err-Unbalanced.from c.in-Err-Unbalanced.to c.in-Err-Unbalanced.there c.in-Err-Unbalanced.back _ _
    c.in-Err-Unbalanced.field-0-is c.in-Err-Unbalanced.ensures.refused c.in_ok-line-in-Err-Unbalanced.ensures
    (c.invalid_input.ensures 1)

pub slice-requires : goal.slice-requires
slice-requires c = c.requires.valid
