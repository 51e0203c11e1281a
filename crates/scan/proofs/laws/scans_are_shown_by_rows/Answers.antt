use Rattle.scan.proofs.ShownRows.{rows_are_scan, rows_show}
use Rattle.scan.proofs.laws.scans_are_shown_by_rows.Goals as goal

pub returns : goal.returns
returns c = record { rows = rows_are_scan; same = rows_show }
