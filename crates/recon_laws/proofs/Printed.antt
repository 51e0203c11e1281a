-- The printed form of a scan is its text: the header of `scan` spells the same lines, which computes.
use Rattle.std.proofs.Common.{ℕ, ◌≡◌, refl, ap, Bool, true, false, List, ◌++◌, length}
use Rattle.std.specs.List.{flat_map}
use Rattle.ply_head.specs.Spelling.{spelling}
use Rattle.scan.specs.PlainForm.{header, is_wide, rows_showing, rows_text, scanner_line, vertex_line}
use Rattle.scan_rows.specs.ScanRows.{ScanRows}
use Rattle.recon_laws.specs.Laws.{TextIsPrinted, printed_rows, scan_header}

-- the same header
same_header : (wide : Bool) (points scanners : ℕ) → scan_header wide points scanners ≡ header wide points scanners
unfolding spelling
same_header false points scanners = refl
same_header true points scanners = refl

rows_printed : (rows : ScanRows) → printed_rows rows ≡ rows_text rows
rows_printed rows =
    ap
    (λ (head : List ℕ).
    head ++ (flat_map (vertex_line (is_wide rows.vertices)) rows.vertices ++ flat_map scanner_line rows.scanners))
    (same_header (is_wide rows.vertices) (length rows.vertices) (length rows.scanners))

pub text_is_printed : TextIsPrinted
text_is_printed = λ scan. rows_printed (rows_showing scan)
