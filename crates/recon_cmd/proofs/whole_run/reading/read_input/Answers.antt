use Rattle.std.proofs.Common.{rules}
use Rattle.command_run.specs.declared.reply.Line.TheVariants.{Fixed}
use Rattle.recon_cmd.specs.OptionViews.{options_view}
use Rattle.recon_cmd.proofs.Readings.{read_long, read_whole}
use Rattle.recon_cmd.proofs.whole_run.reading.read_input.Goals as goal

pub returns-in-Err-TooLong-clause-read : goal.returns-in-Err-TooLong-clause-read
returns-in-Err-TooLong-clause-read g c =
    read_long c.args.limit c.args.name.now (options_view c.args.options.now) (Fixed c.line_of_too_long_scan.result)
    (g.H.Host.state c.args.host.now).told
    c.line_of_too_long_scan.ensures
    (c.in-Err-TooLong.ensures.longer (search rules))

pub returns-clause-read : goal.returns-clause-read
returns-clause-read g c =
    read_whole c.args.limit c.args.name.now (options_view c.args.options.now) c.in-Ok.bytes.items
    c.in_ok-understand_scan.field-0 (g.H.Host.state c.args.host.now).told c.in-Ok.ensures.within c.in-Ok.ensures.bytes
    c.in_ok-understand_scan.ensures
