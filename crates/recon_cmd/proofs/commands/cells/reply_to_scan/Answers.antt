use Rattle.std.proofs.Common.{◌≡◌, subst, ap, ◌∙◌, List, [], ◌∷◌, ◌++◌, length}
use Rattle.geo_sign.specs.Point.{Point}
use Rattle.geo_sign.specs.Vertices.{boxed_vertices}
use Rattle.geo_sign.specs.Cells.{IsCellList}
use Rattle.scan_rows.proofs.ShownLemmas.{scan_is_shown}
use Rattle.scan_rows.specs.Views.{shown_of}
use Rattle.solution.specs.Scans.{points_of}
use Rattle.merge.specs.Merging.{distinct_points}
use Rattle.command_run.specs.Replies.{texts_of}
use Rattle.command_run.specs.declared.reply.Text.{Text}
use Rattle.recon_cmd.specs.Cells.{cells_line, cells_text}
use Rattle.recon_cmd.proofs.ScanReplies.{celled}
use Rattle.recon_cmd.proofs.commands.cells.reply_to_scan.Goals as goal

pub cells_of-requires : goal.cells_of-requires
cells_of-requires g c = (
  shown_of c.args.scan.now,
  scan_is_shown c.args.scan.now,
  c.deref-2.ensures.value
      ∙ (c.in_ok-merged.ensures.points ∙ ap distinct_points c.deref.ensures.value),
)

pub returns : goal.returns
returns g c =
    let points : c.in_ok-merged.merged.points.items ≡ points_of (shown_of c.args.scan.now) =
    c.in_ok-merged.ensures.points ∙ ap distinct_points c.deref.ensures.value in
    let writes_is : texts_of c.push.new.self.items ≡ (c.args.output.now, c.in_ok-text.text.items) ∷ [] =
    ap texts_of
    (c.in_ok-push.ensures.items
    ∙ ap (λ (texts : List Text). texts ++ (record { name = c.args.output; bytes = c.in_ok-text.text } ∷ []))
    c.new-texts.ensures.items) in
    let line_is : c.in_ok-line.line.items
    ≡ cells_line (length c.in_ok-merged.merged.points.items) (length c.in_ok-cells.cells.items) =
    cc (c.in_ok-line.ensures, c.len.ensures, c.len-2.ensures) in
    celled c.args.output.now (shown_of c.args.scan.now) c.in_ok-merged.merged.points.items c.in_ok-cells.cells.items
    (texts_of c.push.new.self.items) c.in_ok-text.text.items c.in_ok-line.line.items
    points (subst (λ (points : List Point). IsCellList (boxed_vertices points) c.in_ok-cells.cells.items) c.deref-2.ensures.value
    c.in_ok-cells.ensures)
    writes_is (c.in_ok-text.ensures ∙ ap cells_text c.deref-3.ensures.value) line_is
