use Rattle.std.proofs.Common.{rules}
use Rattle.command_run.specs.declared.reply.Line.TheVariants.{Fixed}
use Rattle.mesh_cmd.proofs.InputReplies.{input_long, input_read}
use Rattle.mesh_cmd.proofs.input.read_input.Goals as goal

pub returns-in-Err-TooLong-clause-read : goal.returns-in-Err-TooLong-clause-read
returns-in-Err-TooLong-clause-read g c =
    input_long c.args.role c.args.limit c.args.name.now (Fixed c.line_of_too_long.result) (g.H.Host.state c.args.host.now).told
    c.line_of_too_long.ensures (c.in-Err-TooLong.ensures.longer (search rules))

pub returns-clause-read : goal.returns-clause-read
returns-clause-read g c =
    input_read c.args.role c.args.limit c.args.name.now c.in-Ok.bytes.items c.deref.result.now c.in_ok-understand_input.field-0
    (g.H.Host.state c.args.host.now).told c.deref.ensures.value c.in-Ok.ensures.within c.in-Ok.ensures.bytes
    c.in_ok-understand_input.ensures.understood
