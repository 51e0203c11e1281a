use Rattle.std.proofs.Common.{rules}
use Rattle.command_run.specs.declared.meshes.TheConstants.{FILE_LIMIT}
use Rattle.command_run.specs.declared.reply.Line.TheVariants.{Made}
use Rattle.join_cmd.proofs.FileReads.{tile_long, tile_read}
use Rattle.join_cmd.proofs.meshes.read_tile.Goals as goal

pub returns-in-Err-TooLong-clause-read : goal.returns-in-Err-TooLong-clause-read
returns-in-Err-TooLong-clause-read g c =
    tile_long FILE_LIMIT c.args.tile c.args.name.now (Made c.in_ok-line_of_too_long_tile-in-Err-TooLong.field-0)
    (g.H.Host.state c.args.host.now).told c.in_ok-line_of_too_long_tile-in-Err-TooLong.ensures
    (c.in-Err-TooLong.ensures.longer (search rules))

pub returns-clause-read : goal.returns-clause-read
returns-clause-read g c =
    tile_read FILE_LIMIT c.args.tile c.args.name.now c.in-Ok.bytes.items c.deref.result.now c.in_ok-understand_tile.field-0
    (g.H.Host.state c.args.host.now).told c.deref.ensures.value c.in-Ok.ensures.within c.in-Ok.ensures.bytes
    c.in_ok-understand_tile.ensures.understood
