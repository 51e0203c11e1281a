use Rattle.std.proofs.Common.{IfSome, Ok, ap, subst}
use Rattle.scan_rows.specs.Views.{shown_of}
use Rattle.command_run.specs.Answers.{Answer}
use Rattle.command_run.specs.Words.{Names}
use Rattle.command_run.specs.declared.status.Status.TheVariants.{Done}
use Rattle.recon_cmd.specs.Answers.{scan_within}
use Rattle.recon_cmd.specs.Cells.{WritesCells, cells_task, cells_names}
use Rattle.recon_cmd.specs.OptionViews.{options_view}
use Rattle.recon_cmd.specs.Options.{Options}
use Rattle.recon_cmd.specs.Steps.{IsReading}
use Rattle.recon_cmd.specs.declared.whole_run.reading.Reading.{Reading}
use Rattle.recon_cmd.proofs.FileReplies.{reply_rejects, reply_to_found}
use Rattle.recon_cmd.proofs.commands.cells.reply_to_cells.Goals as goal

pub returns-in-Scan-clause-replied : goal.returns-in-Scan-clause-replied
returns-in-Scan-clause-replied g c =
    let names : Names = cells_names c.args.names.now in
    let options : Options = options_view c.args.options.now in
    reply_to_found (cells_task names options) 1 names.input (scan_within c.args.limit options) (λ _. WritesCells names.output)
    c.in-Scan.field-1.items (Ok (shown_of c.in-Scan.scan)) Done c.in_ok-reply_to_scan-in-Scan.field-0
    (g.H.Host.state c.args.host.now) (ap (λ (a : Answer). a.status) c.in_ok-reply_to_scan-in-Scan.ensures.is) tt tt
    c.in_ok-reply_to_scan-in-Scan.ensures
    (subst (λ (reading : Reading).
    IfSome (g.H.Host.state c.args.host.now).told (IsReading c.args.limit names.input options reading))
    c.in-Scan.is c.in_ok-scan.ensures.read)

pub returns-clause-replied : goal.returns-clause-replied
returns-clause-replied g c =
    let names : Names = cells_names c.args.names.now in
    let options : Options = options_view c.args.options.now in
    reply_rejects (cells_task names options) 1 names.input (scan_within c.args.limit options) (λ _ _. WritesCells names.output) _
    c.invalid_input.result (g.H.Host.state c.args.host.now) tt (c.invalid_input.ensures 1)
    (subst (λ (reading : Reading).
    IfSome (g.H.Host.state c.args.host.now).told (IsReading c.args.limit names.input options reading))
    c.in-Refused.is c.in_ok-scan.ensures.read)
