use Rattle.std.proofs.Common.{Some, ap, ◌∙◌, refl}
use Rattle.recon_cmd.specs.OptionViews.{options_view}
use Rattle.recon_cmd.specs.Build.{build_names}
use Rattle.recon_cmd.proofs.ScanReplies.{built}
use Rattle.recon_cmd.proofs.commands.build.reply_to_scan.Goals as goal

pub returns : goal.returns
returns g c =
    built (build_names c.args.names.now) (options_view c.args.options.now) c.args.bytes.items c.args.scan.now
    c.args.options.now.settings c.in_ok-solved.solved c.reply_of.result refl refl
    c.in_ok-solved.ensures.solution c.in_ok-solved.ensures.valid c.in_ok-solved.ensures.closed
    c.in_ok-solved.ensures.well_formed
    (c.in_ok-solved.ensures.stamp ∙ ap Some c.stamp_of-stamp.ensures) c.reply_of.ensures
