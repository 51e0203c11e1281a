-- A sight for each item of a list of scanners.
--
-- The invariant is that the sights so far, with what naming the items left makes of them, are what the whole list makes.
-- An item that names a scanner adds its sight (named_taken), one that names none is the refusal of the whole
-- (named_refused), and behind the last one there is nothing to name (no_items, all_named).
use Rattle.std.proofs.Common.{◌≡◌, ◌++◌, ◌∷◌, [], ◌-◌, refl, subst, ◌∙◌, ap}
use Rattle.std.proofs.lemmas.Result.{err_from_is_err_and}
use Rattle.ply_head.specs.declared.header.Scalar.{Scalar}
use Rattle.ply_rows.specs.Items.{items_from, HasItems}
use Rattle.scan_rows.specs.declared.scan.Seen.{Seen}
use Rattle.scan.specs.Needs.{type_of}
use Rattle.scan.specs.Found.{scanner_named}
use Rattle.scan.specs.ReadViews.{row_view}
use Rattle.scan.proofs.SightSteps.{named_taken, named_refused, all_named, no_items}
use Rattle.scan.proofs.rows.push_items.Goals as goal

pub loop-left-init : goal.loop-left-init
loop-left-init c = record { so_far = refl; inside = c.requires.place; there = c.requires.there }

pub loop-left-preserved : goal.loop-left-preserved
loop-left-preserved c =
    let row = row_view c.args.row.now in
    let item = type_of c.args.scanners.index.shape in
    let kind = row.body.kind in
    let bytes = row.body.bytes in
    let rest = c.first_item-behind.result.1 in
    let more : c.push.new.self.items
    ≡ c.loop-left.seen.items
    ++ (record { row = c.args.point.row; scanner = c.in_ok-scanner.scanner; weight = c.args.point.weight }) ∷ [] =
    c.in_ok-push.ensures.items ∙ ap (λ (s : Seen). c.loop-left.seen.items ++ s ∷ []) c.from.ensures in
    record {
      so_far =
          named_taken (scanner_named row c.args.scanners) c.loop-left.seen.items c.push.new.self.items
          c.args.point.row c.args.point.weight c.in_ok-scanner.scanner c.first_item-behind.result.0.now
          (items_from kind item bytes c.loop-left.place c.loop-left.left)
          (items_from kind item bytes rest (c.loop-left.left - 1)) _
          (subst (λ (s : Scalar). items_from kind s bytes c.loop-left.place c.loop-left.left
          ≡ c.first_item-behind.result.0.now ∷ items_from kind s bytes rest (c.loop-left.left - 1)) c.type_of_values-item.ensures
          c.first_item-behind.ensures.first) c.in_ok-scanner.ensures more c.loop-left.invariant.so_far;
      inside = c.first_item-behind.ensures.most;
      there =
          subst (λ (s : Scalar). HasItems kind s bytes rest (c.loop-left.left - 1)) c.type_of_values-item.ensures
          c.first_item-behind.ensures.there;
    }

pub returns-in_err-scanner : goal.returns-in_err-scanner
returns-in_err-scanner c =
    let row = row_view c.args.row.now in
    let item = type_of c.args.scanners.index.shape in
    let kind = row.body.kind in
    let bytes = row.body.bytes in
    let rest = c.first_item-behind.result.1 in
    let returned = err_from_is_err_and c.from_residual.result c.from_residual.ensures.1 in
    rw (returned.1, returned.2)
    (named_refused c.in_err-scanner.field-0.0 (scanner_named row c.args.scanners) c.args.seen.now.items c.loop-left.seen.items
    c.args.point.row c.args.point.weight c.first_item-behind.result.0.now
    (items_from kind item bytes c.loop-left.place c.loop-left.left) (items_from kind item bytes rest (c.loop-left.left - 1)) _
    (subst (λ (s : Scalar). items_from kind s bytes c.loop-left.place c.loop-left.left
    ≡ c.first_item-behind.result.0.now ∷ items_from kind s bytes rest (c.loop-left.left - 1)) c.type_of_values-item.ensures
    c.first_item-behind.ensures.first) c.in_err-scanner.ensures c.loop-left.invariant.so_far)

pub returns : goal.returns
returns c =
    let row = row_view c.args.row.now in
    let item = type_of c.args.scanners.index.shape in
    all_named (scanner_named row c.args.scanners) c.loop-left.seen.items c.args.point.row c.args.point.weight
    (items_from row.body.kind item row.body.bytes c.loop-left.place c.loop-left.left) _
    (no_items row.body.kind item row.body.bytes c.loop-left.place c.loop-left.left c.loop-left-test.false)
    c.loop-left.invariant.so_far
