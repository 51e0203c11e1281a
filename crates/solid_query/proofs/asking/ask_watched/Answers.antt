use Rattle.std.proofs.Common.{Bool, List, subst}
use Rattle.std.proofs.lemmas.Result.{IfOk-weaker}
use Rattle.scan_rows.specs.Views.{shown_of}
use Rattle.solid_query.specs.Labels.{AreLabels}
use Rattle.solid_query.specs.Solids.{AreFlagged}
use Rattle.solid_query.proofs.Located.{labels_of}
use Rattle.solid_query.proofs.asking.ask_watched.Goals as goal

pub returns-then-queries : goal.returns-then-queries
returns-then-queries g c =
    let s = c.in_ok-solid.solid.tetra in
    let flags = c.in_ok-solid.solid.labels.inside in
    let points = c.args.queries.now in
    IfOk-weaker c.flags_at.result (λ found. AreFlagged s c.as_slice-inside.result.now points found.items)
    (λ found. AreLabels (shown_of c.args.scan.now) c.args.settings points found.items)
    (λ found h.
    labels_of (shown_of c.args.scan.now) c.args.settings s flags c.in_ok-solid.ensures points found.items
    c.requires (subst (λ (xs : List Bool). AreFlagged s xs points found.items) c.as_slice-inside.ensures h)) c.flags_at.ensures

pub returns : goal.returns
returns g c =
    let s = c.in_ok-solid.solid.tetra in
    let flags = c.in_ok-solid.solid.labels.inside in
    let points = c.args.queries.now in
    IfOk-weaker c.flags_along.result (λ found. AreFlagged s c.as_slice-inside.result.now points found.items)
    (λ found. AreLabels (shown_of c.args.scan.now) c.args.settings points found.items)
    (λ found h.
    labels_of (shown_of c.args.scan.now) c.args.settings s flags c.in_ok-solid.ensures points found.items
    c.requires (subst (λ (xs : List Bool). AreFlagged s xs points found.items) c.as_slice-inside.ensures h)) c.flags_along.ensures
