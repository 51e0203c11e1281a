use Rattle.std.proofs.Common.{◌≡◌, ◌≤◌, length}
use Rattle.ply_rows.specs.Items.{items_from, HasItems}
use Rattle.scan.specs.Needs.{type_of}
use Rattle.scan.specs.Found.{scanner_named, scanners_in_list, each_of}
use Rattle.scan.specs.ReadViews.{row_view}
use Rattle.scan.proofs.SightSteps.{seen_behind}
use Rattle.scan.proofs.rows.push_items.Given as goal

abbrev pub invariant-loop-left : goal.invariant-loop-left
invariant-loop-left l = record {
  so_far : seen_behind l.seen.items l.point.row l.point.weight
      (each_of (scanner_named (row_view l.row) l.scanners)
      (items_from l.row.body.head.now.kind (type_of l.scanners.index.shape) l.row.body.bytes.now l.place l.left))
      ≡ seen_behind l.initial.seen.items l.point.row l.point.weight
      (scanners_in_list (row_view l.row) l.scanners l.fn.field);
  inside : l.place ≤ length l.row.body.bytes.now;
  there : HasItems l.row.body.head.now.kind (type_of l.scanners.index.shape) l.row.body.bytes.now l.place l.left;
}

abbrev pub decreases-loop-left : goal.decreases-loop-left
decreases-loop-left l = l.left
