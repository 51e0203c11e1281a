use Rattle.std.proofs.Common.{IfSome, subst}
use Rattle.scan_rows.specs.Views.{shown_of}
use Rattle.recon_cmd.specs.Answers.{ToScan, scan_within}
use Rattle.recon_cmd.specs.Ask.{AskAnswer, ask_task, ask_names, QueryNames}
use Rattle.recon_cmd.specs.OptionViews.{options_view}
use Rattle.recon_cmd.specs.Options.{Options}
use Rattle.recon_cmd.specs.Steps.{IsReading}
use Rattle.recon_cmd.specs.declared.whole_run.reading.Reading.{Reading}
use Rattle.recon_cmd.proofs.FileReplies.{reads_all, reads_behind, reply_rejects, result_behind}
use Rattle.recon_cmd.proofs.commands.ask.reply_to_ask.Goals as goal

pub returns-in-Scan-clause-replied : goal.returns-in-Scan-clause-replied
returns-in-Scan-clause-replied g c =
    let names : QueryNames = ask_names c.args.names.now in
    let options : Options = options_view c.args.options.now in
    result_behind (ask_task names options) 1 names.input (scan_within c.args.limit options)
    (λ files _. AskAnswer c.args.limit names options files) c.in-Scan.bytes.items (shown_of c.in-Scan.scan) c.reply_to_scan.result
    (g.H.Host.state c.args.host.now) (g.H.Host.state c.read_input.new.host) c.in_ok-scan.ensures.only
    (subst (λ (reading : Reading).
    IfSome (g.H.Host.state c.args.host.now).told (IsReading c.args.limit names.input options reading))
    c.in-Scan.is c.in_ok-scan.ensures.read)
    c.reply_to_scan.ensures.replied

pub returns-in-Scan-clause-reads : goal.returns-in-Scan-clause-reads
returns-in-Scan-clause-reads g c =
    let names : QueryNames = ask_names c.args.names.now in
    let options : Options = options_view c.args.options.now in
    let before = g.H.Host.state c.args.host.now in
    let after = g.H.Host.state c.reply_to_scan.new.host in
    reads_all 2 (λ files. ToScan c.args.limit names.input options (λ _. AskAnswer c.args.limit names options files) files) before after
    (reads_behind 1 names.input (scan_within c.args.limit options) (λ files _. AskAnswer c.args.limit names options files)
    c.in-Scan.bytes.items (shown_of c.in-Scan.scan) 0 1 before (g.H.Host.state c.read_input.new.host) after
    c.in_ok-scan.ensures.only
    (subst (λ (reading : Reading).
    IfSome (g.H.Host.state c.args.host.now).told (IsReading c.args.limit names.input options reading))
    c.in-Scan.is c.in_ok-scan.ensures.read)
    c.reply_to_scan.ensures.reads)

pub returns-in-Refused-clause-replied : goal.returns-in-Refused-clause-replied
returns-in-Refused-clause-replied g c =
    let names : QueryNames = ask_names c.args.names.now in
    let options : Options = options_view c.args.options.now in
    reply_rejects (ask_task names options) 1 names.input (scan_within c.args.limit options)
    (λ files _. AskAnswer c.args.limit names options files) _ c.invalid_input.result (g.H.Host.state c.args.host.now) tt
    (c.invalid_input.ensures 1)
    (subst (λ (reading : Reading).
    IfSome (g.H.Host.state c.args.host.now).told (IsReading c.args.limit names.input options reading))
    c.in-Refused.is c.in_ok-scan.ensures.read)
