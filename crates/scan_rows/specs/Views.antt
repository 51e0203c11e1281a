-- The view of a scan's fields in contracts.
use Rattle.scan_rows.specs.Shown.{Shown}
use Rattle.scan_rows.specs.declared.scan.Scan.{Scan}

-- what a `Scan` shows
abbrev pub shown_of : Scan → Shown
shown_of scan = record { points = scan.points.items; scanners = scan.scanners.items; seen = scan.seen.items }
