use Rattle.std.proofs.Common.{rules}
use Rattle.std.proofs.lemmas.Option.{IfSome_then}
use Rattle.scan_rows.specs.Views.{shown_of}
use Rattle.solid_query.specs.Queries.{points_in}
use Rattle.recon_cmd.specs.Answers.{or_line}
use Rattle.recon_cmd.specs.Ask.{AskAnswer, WritesLabels, ask_task, ask_names, query_refusal_line, too_long_points_line, QueryNames}
use Rattle.recon_cmd.specs.OptionViews.{options_view}
use Rattle.recon_cmd.specs.Options.{Options}
use Rattle.recon_cmd.proofs.AskReplies.{ask_reads, points_reply}
use Rattle.recon_cmd.proofs.FileAnswers.{up_to_short}
use Rattle.recon_cmd.proofs.FileReplies.{reads_last, too_long}
use Rattle.recon_cmd.proofs.commands.ask.reply_to_scan.Goals as goal

pub returns-in-Err-TooLong-clause-replied : goal.returns-in-Err-TooLong-clause-replied
returns-in-Err-TooLong-clause-replied g c =
    let names : QueryNames = ask_names c.args.asked.now.names.now in
    let options : Options = options_view c.args.asked.now.options.now in
    too_long (ask_task names options) 2 c.args.asked.now.limit names.points too_long_points_line
    (λ b. or_line query_refusal_line (points_in b options.unit))
    (λ _ _. WritesLabels names.output options (shown_of c.args.scan.now)) _ c.invalid_input.result (g.H.Host.state c.args.host.now)
    tt (c.invalid_input.ensures 2) c.line_of_too_long_points.ensures (c.in-Err-TooLong.ensures.longer (search rules))

pub returns-clause-replied : goal.returns-clause-replied
returns-clause-replied g c =
    let names : QueryNames = ask_names c.args.asked.now.names.now in
    let options : Options = options_view c.args.asked.now.options.now in
    let bytes = c.in-Ok.bytes.items in
    points_reply c.args.asked.now.limit names options (shown_of c.args.scan.now) bytes
    (or_line query_refusal_line (points_in bytes options.unit)) c.in_ok-reply_to_points.field-0 (g.H.Host.state c.args.host.now)
    (IfSome_then (g.H.Host.state c.args.host.now).told c.in-Ok.ensures.bytes
    (λ told is. (
      is,
      up_to_short c.args.asked.now.limit too_long_points_line (λ b. or_line query_refusal_line (points_in b options.unit)) bytes
          c.in-Ok.ensures.within,
    )))
    c.in_ok-reply_to_points.ensures

pub returns-clause-reads : goal.returns-clause-reads
returns-clause-reads g c =
    let names : QueryNames = ask_names c.args.asked.now.names.now in
    let options : Options = options_view c.args.asked.now.options.now in
    reads_last 1 (λ files. AskAnswer c.args.asked.now.limit names options files (shown_of c.args.scan.now)) (g.H.Host.state c.args.host.now)
    (g.H.Host.state c.read_all.new.host) (ask_reads c.args.asked.now.limit names options (shown_of c.args.scan.now)) c.requires
    c.in-Ok.ensures.only_reads
