use Rattle.std.proofs.Common.{◌≡◌, refl, ap, ◌∙◌, Bool, List, [], ◌∷◌, ◌++◌, length, count_by}
use Rattle.scan_rows.specs.Views.{shown_of}
use Rattle.solution.specs.Scans.{points_of}
use Rattle.command_run.specs.Replies.{texts_of}
use Rattle.command_run.specs.declared.reply.Text.{Text}
use Rattle.recon_cmd.specs.OptionViews.{options_view}
use Rattle.recon_cmd.specs.Ask.{ask_line, labels_text}
use Rattle.recon_cmd.proofs.AskReplies.{labels_written}
use Rattle.recon_cmd.proofs.commands.ask.reply_to_queries.Goals as goal

pub returns : goal.returns
returns g c =
    let labels = c.in_ok-labels.labels.items in
    let writes_is : texts_of c.push.new.self.items ≡ (c.args.output.now, c.in_ok-text.text.items) ∷ [] =
    ap texts_of
    (c.in_ok-push.ensures.items
    ∙ ap (λ (texts : List Text). texts ++ (record { name = c.args.output; bytes = c.in_ok-text.text } ∷ []))
    c.new-texts.ensures.items) in
    let inside : c.inside_count.result ≡ count_by (λ label. label) labels =
    c.inside_count.ensures ∙ ap (count_by (λ (label : Bool). label)) c.deref-2.ensures.value in
    let line : c.in_ok-line.line.items
    ≡ ask_line (length (points_of (shown_of c.args.scan.now))) (length labels) (count_by (λ label. label) labels) =
    cc (c.in_ok-line.ensures, c.in_ok-count.ensures, c.len.ensures, inside) in
    labels_written c.args.output.now (options_view c.args.options.now) (shown_of c.args.scan.now) c.args.options.now.settings
    c.args.points.now labels (texts_of c.push.new.self.items) c.in_ok-text.text.items c.in_ok-line.line.items refl refl
    c.in_ok-labels.ensures writes_is (c.in_ok-text.ensures ∙ ap labels_text c.deref.ensures.value) line
