use Rattle.std.proofs.Common.{ap, ◌∙◌, refl, ℕ, List, [], Option}
use Rattle.std.proofs.lemmas.Result.{IfOk-weaker}
use Rattle.certificate.specs.Certificates.{stamp_view}
use Rattle.scan_rows.specs.Views.{shown_of}
use Rattle.command_run.specs.Answers.{Answer}
use Rattle.command_run.specs.Replies.{answer_of}
use Rattle.command_run.specs.declared.status.Status.{Status}
use Rattle.command_run.specs.declared.status.Status.TheVariants.{Done, No}
use Rattle.recon_check.specs.Found.{answer_found}
use Rattle.recon_cmd.specs.Check.{output_of}
use Rattle.recon_cmd.specs.OptionViews.{options_view}
use Rattle.recon_cmd.proofs.CheckReplies.{no_said, verdict_given, yes_said, yes_written}
use Rattle.recon_cmd.proofs.commands.check.reply_to_texts.Goals as goal

-- the answer that says a line
said_as : Status → List ℕ → Answer
said_as status line = record { status = status; reads = 3; writes = []; line = line }

pub returns-in_ok-line-in-None : goal.returns-in_ok-line-in-None
unfolding said_as
returns-in_ok-line-in-None g c =
    let asked = c.args.asked.now in
    let stamp = stamp_view c.args.scan.now.stamp in
    verdict_given (output_of asked.names.now) (options_view asked.options.now) stamp (shown_of c.args.scan.now.scan)
    c.args.texts.mesh.now c.args.texts.cert.items asked.options.now.settings (answer_found c.in_ok-shown.field-0) _ refl refl
    c.in_ok-shown.ensures.answer
    (yes_said (output_of asked.names.now) stamp c.args.texts.cert.items (answer_found c.in_ok-shown.field-0) c.in-Yes.shown.inside
    c.in-Yes.shown.faces c.in-Yes.shown.cost _ (ap (λ o. output_of (record asked.names.now { output = o })) c.in-None.is)
    (ap answer_found c.in-Yes.is) (c.said.ensures ∙ ap (said_as Done) c.in_ok-line-in-None.ensures))

pub returns-in-Some : goal.returns-in-Some
returns-in-Some g c =
    let asked = c.args.asked.now in
    let stamp = stamp_view c.args.scan.now.stamp in
    IfOk-weaker c.reply_of_upgrade.result _ _ (λ reply is.
    verdict_given (output_of asked.names.now) (options_view asked.options.now) stamp (shown_of c.args.scan.now.scan)
    c.args.texts.mesh.now c.args.texts.cert.items asked.options.now.settings (answer_found c.in_ok-shown.field-0) (answer_of 3 reply)
    refl refl c.in_ok-shown.ensures.answer
    (yes_written (output_of asked.names.now) c.in-Some.output.now stamp c.args.texts.cert.items c.in_ok-shown.field-0 c.in-Yes.shown
    (answer_of 3 reply) (ap (λ o. output_of (record asked.names.now { output = o })) c.in-Some.is) c.in-Yes.is
    c.in_ok-shown.ensures.parsed is)) c.reply_of_upgrade.ensures

pub returns-in_ok-line-in-No : goal.returns-in_ok-line-in-No
unfolding said_as
returns-in_ok-line-in-No g c =
    let asked = c.args.asked.now in
    let stamp = stamp_view c.args.scan.now.stamp in
    verdict_given (output_of asked.names.now) (options_view asked.options.now) stamp (shown_of c.args.scan.now.scan)
    c.args.texts.mesh.now c.args.texts.cert.items asked.options.now.settings (answer_found c.in_ok-shown.field-0) _ refl refl
    c.in_ok-shown.ensures.answer
    (no_said (output_of asked.names.now) stamp c.args.texts.cert.items (answer_found c.in_ok-shown.field-0) c.in-No.reason _
    (ap answer_found c.in-No.is) (c.said-in-No.ensures ∙ ap (said_as No) c.in_ok-line-in-No.ensures))
