use Rattle.std.proofs.Common.{rules, Ok}
use Rattle.certificate.specs.Certificates.{stamp_view}
use Rattle.scan_rows.specs.Views.{shown_of}
use Rattle.recon_cmd.specs.Check.{CertAnswerFor, HasVerdictFor, check_names, output_of, task_for, too_long_cert_line}
use Rattle.recon_cmd.specs.OptionViews.{options_view}
use Rattle.recon_cmd.specs.Words.{SurfaceNames}
use Rattle.recon_cmd.specs.declared.commands.check.CheckAsked.{CheckAsked}
use Rattle.recon_cmd.proofs.CheckReplies.{cert_reads, cert_reply, whole_found}
use Rattle.recon_cmd.proofs.FileReplies.{reads_last, too_long}
use Rattle.recon_cmd.proofs.commands.check.reply_to_mesh.Goals as goal

pub returns-in-Err-TooLong-clause-replied : goal.returns-in-Err-TooLong-clause-replied
returns-in-Err-TooLong-clause-replied g c =
    let asked : CheckAsked = c.args.asked.now in
    let names : SurfaceNames = check_names asked.names.now in
    too_long (task_for asked) 3 asked.limit names.cert too_long_cert_line (λ b. Ok b)
    (λ _ cert _. HasVerdictFor asked c.args.scan.now c.args.mesh.now cert) _ c.invalid_input.result
    (g.H.Host.state c.args.host.now) tt (c.invalid_input.ensures 3) c.line_of_too_long_cert.ensures
    (c.in-Err-TooLong.ensures.longer (search rules))

pub returns-clause-replied : goal.returns-clause-replied
returns-clause-replied g c =
    let asked : CheckAsked = c.args.asked.now in
    let names : SurfaceNames = check_names asked.names.now in
    let cert = c.in-Ok.cert.items in
    cert_reply asked.limit names (output_of asked.names.now) (options_view asked.options.now)
    (stamp_view c.args.scan.now.stamp) (shown_of c.args.scan.now.scan) c.args.mesh.now cert
    c.in_ok-reply_to_texts.field-0 (g.H.Host.state c.args.host.now)
    (whole_found asked.limit names.cert too_long_cert_line cert (g.H.Host.state c.args.host.now).told c.in-Ok.ensures.within
    c.in-Ok.ensures.bytes)
    c.in_ok-reply_to_texts.ensures

pub returns-clause-reads : goal.returns-clause-reads
returns-clause-reads g c =
    let asked : CheckAsked = c.args.asked.now in
    reads_last 2 (CertAnswerFor asked c.args.scan.now c.args.mesh.now) (g.H.Host.state c.args.host.now)
    (g.H.Host.state c.read_all.new.host)
    (cert_reads asked.limit (check_names asked.names.now) (output_of asked.names.now) (options_view asked.options.now)
    (stamp_view c.args.scan.now.stamp) (shown_of c.args.scan.now.scan) c.args.mesh.now) c.requires c.in-Ok.ensures.only_reads
