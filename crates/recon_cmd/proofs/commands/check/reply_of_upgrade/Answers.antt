use Rattle.std.proofs.Common.{◌≡◌, ap, ◌∙◌, ◌++◌, List, [], ◌∷◌}
use Rattle.certificate.specs.Certificates.{claim_of, stamp_view}
use Rattle.command_run.specs.Replies.{texts_of}
use Rattle.command_run.specs.declared.reply.Text.{Text}
use Rattle.recon_cmd.proofs.CheckReplies.{upgraded}
use Rattle.recon_cmd.proofs.commands.check.reply_of_upgrade.Goals as goal

pub returns : goal.returns
returns c =
    let writes_is : texts_of c.push.new.self.items ≡ (c.args.output.now, c.in_ok-text.text.items) ∷ [] =
    ap texts_of
    (c.in_ok-push.ensures.items
    ∙ ap (λ (texts : List Text). texts ++ (record { name = c.args.output; bytes = c.in_ok-text.text } ∷ []))
    c.new-texts.ensures.items) in
    upgraded c.args.output.now c.in_ok-text.text.items c.in_ok-line.line.items (stamp_view c.args.stamp.now)
    (claim_of c.args.shown.cert) c.args.shown.cost (texts_of c.push.new.self.items)
    writes_is c.in_ok-line.ensures c.in_ok-text.ensures
