use Rattle.std.proofs.Common.{rules, subst, IfOk, Ok, List, ℕ}
use Rattle.command_run.specs.Lines.{too_long_mesh_line}
use Rattle.command_run.specs.Steps.{IsReplyOf}
use Rattle.recon_cmd.specs.Check.{CertAnswerFor, check_names, task_for, whole_within}
use Rattle.recon_cmd.specs.Words.{SurfaceNames}
use Rattle.recon_cmd.specs.declared.commands.check.CheckAsked.{CheckAsked}
use Rattle.recon_cmd.proofs.CheckReplies.{whole_found}
use Rattle.recon_cmd.proofs.FileReplies.{result_behind, too_long}
use Rattle.recon_cmd.proofs.commands.check.reply_to_scan.Goals as goal

pub returns-in-Err-TooLong-clause-replied : goal.returns-in-Err-TooLong-clause-replied
returns-in-Err-TooLong-clause-replied g c =
    let asked : CheckAsked = c.args.asked.now in
    let names : SurfaceNames = check_names asked.names.now in
    too_long (task_for asked) 2 asked.limit names.mesh too_long_mesh_line (λ b. Ok b)
    (λ files mesh _. CertAnswerFor asked c.args.scan.now mesh files) _ c.invalid_input.result (g.H.Host.state c.args.host.now) tt
    (c.invalid_input.ensures 2) c.line_of_too_long_mesh.ensures (c.in-Err-TooLong.ensures.longer (search rules))

pub returns-clause-replied : goal.returns-clause-replied
returns-clause-replied g c =
    let asked : CheckAsked = c.args.asked.now in
    let names : SurfaceNames = check_names asked.names.now in
    let mesh = c.in-Ok.mesh.items in
    result_behind (task_for asked) 2 names.mesh (whole_within asked.limit too_long_mesh_line)
    (λ files mesh _. CertAnswerFor asked c.args.scan.now mesh files) mesh mesh c.reply_to_mesh.result
    (g.H.Host.state c.args.host.now) (g.H.Host.state c.read_all.new.host) c.in-Ok.ensures.only_reads
    (whole_found asked.limit names.mesh too_long_mesh_line mesh (g.H.Host.state c.args.host.now).told c.in-Ok.ensures.within
    c.in-Ok.ensures.bytes)
    (subst (λ (mesh : List ℕ).
    IfOk c.reply_to_mesh.result
    (λ reply. IsReplyOf (task_for asked) (CertAnswerFor asked c.args.scan.now mesh) reply (g.H.Host.state c.read_all.new.host)))
    c.deref.ensures.value c.reply_to_mesh.ensures.replied)
