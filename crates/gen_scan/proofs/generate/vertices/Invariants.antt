use Rattle.std.proofs.Common.{◌≡◌, ◌++◌, length, map}
use Rattle.scan_rows.specs.Shown.{seen_from, shown_by}
use Rattle.gen_scan.specs.Generated.{generated}
use Rattle.gen_scan.proofs.Words.{point_in, rows_left}
use Rattle.gen_scan.proofs.generate.vertices.Given as goal

abbrev pub invariant-loop-row : goal.invariant-loop-row
invariant-loop-row l = record {
  place : l.points.items ++ map point_in (rows_left l.row l.count l.words) ≡ (shown_by (generated l.count l.seed)).points;
  sight : l.seen.items ++ seen_from l.row (rows_left l.row l.count l.words) ≡ (shown_by (generated l.count l.seed)).seen;
  point_count : length l.points.items ≡ l.row;
}
