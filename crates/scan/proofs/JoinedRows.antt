-- Rows one behind another show their content one behind another: later rows are numbered on from those before.
use Rattle.std.proofs.Common.{◌≡◌, ℕ, ◌+◌, List, ◌++◌, length, map, refl, sym, ap, ◌∙◌, arith, append_assoc, length-append}
use Rattle.std.proofs.lemmas.List.{append-nil, map-append, length-map}
use Rattle.geo_sign.specs.Point.{Point}
use Rattle.scan_rows.specs.declared.scan.Seen.{Seen}
use Rattle.scan_rows.specs.ScanRows.{ScanRows}
use Rattle.scan_rows.specs.Shown.{Shown, seen_from}
use Rattle.scan.specs.Found.{no_rows, rows_and}
use Rattle.scan.specs.ReadViews.{shown_and}
use Rattle.scan_rows.proofs.ShownLemmas.{point_in, seen_from-append}

pub both_shown : (before : Shown) (rows others : ScanRows)
    → shown_and (shown_and before rows) others ≡ shown_and before (rows_and rows others)
both_shown before rows others =
    let points : (before.points ++ map point_in rows.vertices) ++ map point_in others.vertices
    ≡ before.points ++ map point_in (rows.vertices ++ others.vertices) =
    append_assoc before.points (map point_in rows.vertices) (map point_in others.vertices)
    ∙ ap (λ (ps : List Point). before.points ++ ps) (sym (map-append point_in rows.vertices others.vertices)) in
    let scanners : (before.scanners ++ rows.scanners) ++ others.scanners
    ≡ before.scanners ++ (rows.scanners ++ others.scanners) =
    append_assoc before.scanners rows.scanners others.scanners in
    let number : length (before.points ++ map point_in rows.vertices) ≡ length before.points + length rows.vertices =
    length-append before.points (map point_in rows.vertices)
    ∙ ap (λ (n : ℕ). length before.points + n) (length-map rows.vertices point_in) in
    let seen : (before.seen ++ seen_from (length before.points) rows.vertices)
    ++ seen_from (length (before.points ++ map point_in rows.vertices)) others.vertices
    ≡ before.seen ++ seen_from (length before.points) (rows.vertices ++ others.vertices) =
    append_assoc before.seen (seen_from (length before.points) rows.vertices)
    (seen_from (length (before.points ++ map point_in rows.vertices)) others.vertices)
    ∙ ap (λ (n : ℕ). before.seen ++ (seen_from (length before.points) rows.vertices ++ seen_from n others.vertices)) number
    ∙ ap (λ (ss : List Seen). before.seen ++ ss)
    (sym (seen_from-append (length before.points) rows.vertices others.vertices)) in
    rw (points, scanners, seen) refl

-- nothing more
pub none_shown : (before : Shown) → shown_and before no_rows ≡ before
none_shown before = grind (arith, append-nil)
