use Rattle.std.proofs.Common.{List, ℕ, ◌≡◌, Ok, IfOk, ap, sym, subst, ◌∙◌}
use Rattle.geo_sign.specs.Point.{Point}
use Rattle.scan_rows.specs.Views.{shown_of}
use Rattle.solid_query.specs.Queries.{points_in, Fails}
use Rattle.command_run.specs.Replies.{answer_of}
use Rattle.recon_cmd.specs.Answers.{ToContent, or_line}
use Rattle.recon_cmd.specs.Ask.{WritesLabels, query_refusal_line}
use Rattle.recon_cmd.specs.OptionViews.{options_view}
use Rattle.recon_cmd.proofs.AskReplies.{points_failed}
use Rattle.recon_cmd.proofs.FileAnswers.{Found}
use Rattle.recon_cmd.proofs.commands.ask.reply_to_points.Goals as goal

pub returns-in-Ok : goal.returns-in-Ok
returns-in-Ok g c =
    let options = options_view c.args.options.now in
    let labels = WritesLabels c.args.output.now options (shown_of c.args.scan.now) in
    let read : or_line query_refusal_line (points_in c.args.bytes.items options.unit) ≡ Ok c.deref-in-Ok.result.now =
    ap (or_line query_refusal_line)
    (subst (λ (b : List ℕ). points_in b options.unit ≡ Ok c.in-Ok.points.items) c.deref.ensures.value c.in-Ok.ensures.read)
    ∙ ap Ok (sym c.deref-in-Ok.ensures.value) in
    subst (λ (found : Found (List Point)). IfOk c.reply_to_queries.result (λ reply. ToContent 2 labels found (answer_of 2 reply)))
    (sym read) c.reply_to_queries.ensures

pub returns : goal.returns
returns g c =
    let options = options_view c.args.options.now in
    let labels = WritesLabels c.args.output.now options (shown_of c.args.scan.now) in
    subst (λ (found : Found (List Point)). ToContent 2 labels found (answer_of 2 c.invalid_input.result))
    (sym (points_failed c.in-Err.why (points_in c.args.bytes.items options.unit) c.in_ok-line-in-Err.line.items
    (subst (λ (b : List ℕ). Fails c.in-Err.why (points_in b options.unit)) c.deref.ensures.value c.in-Err.ensures.read)
    c.in_ok-line-in-Err.ensures)) (c.invalid_input.ensures 2)
