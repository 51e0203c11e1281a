-- What a scan shows, as rows again: those rows show just this, and are those of a scan. The sights of rows from a number on
-- are cut into those of the first row and those of the rows behind it.
--
-- Sights stand in the order of their rows, so those of the first row are in front of the others (parted), and they are of
-- one weight, so one row with its list of scanners shows them again (same_sights, weigh_alike). The others are of later rows
-- (others_later), whose rows do not see what was cut off (same_vertices). seen_again goes on so by the points; rows_show and
-- rows_are_scan are about the whole.
use Rattle.std.proofs.Common.{◌≡◌, ◌≢◌, ℕ, suc, ◌+◌, ◌<◌, ◌≤◌, ◌==◌, Bool, true, false, cond, List, [], ◌∷◌, ◌++◌, length, map}
use Rattle.std.proofs.Common.{filter, All, AllPairs, refl, sym, ap, ◌∙◌, arith}
use Rattle.std.proofs.lemmas.Bool.{ne_eqb, eqb-true, eqb-false}
use Rattle.std.proofs.lemmas.List.{length-map}
use Rattle.std.proofs.lemmas.List.Elements.{All-nil, All-cons, All-head, All-tail, All-map, All-filter}
use Rattle.std.proofs.lemmas.List.Kept.{AllPairs-filter}
use Rattle.geo_sign.specs.Point.{Point, IsWithin}
use Rattle.geo_sign.specs.declared.point.TheConstants.{DATA_LIMIT}
use Rattle.scan_rows.specs.declared.scan.Seen.{Seen}
use Rattle.scan_rows.specs.ScanRows.{VertexRow, IsVertexRow, IsScan, weight_limit}
use Rattle.scan_rows.specs.Shown.{Shown, sights_in_row, row_seen, seen_from, shown_by, IsSeen, IsNoEarlier, WeighsAlike, IsShown}
use Rattle.scan.specs.PlainForm.{of_row, weight_of, row_showing, vertices_from, rows_showing}
use Rattle.scan_rows.proofs.ShownLemmas.{shown, length-seen_from}

-- ---- the first row's sights, and the others

abbrev is_of : ℕ → Seen → Bool
is_of number s = s.row == number

-- not of this row
abbrev is_other : ℕ → Seen → Bool
is_other number s = cond (s.row == number) false true

abbrev others_of : ℕ → List Seen → List Seen
others_of number seen = filter (is_other number) seen

abbrev From : ℕ → List Seen → Type 0
From number seen = All (λ (s : Seen). number ≤ s.row) seen

-- all are of later rows
none_of_row : (number : ℕ) (seen : List Seen) → From (number + 1) seen
    → (of_row number seen ≡ []) × (others_of number seen ≡ seen)
none_of_row number [] from = (refl, refl)
none_of_row number (s ∷ seen) from =
    let differ : is_of number s ≡ false =
    ne_eqb s.row number (λ same. omega (arith, same, All-head (λ (s : Seen). number + 1 ≤ s.row) s seen from)) in
    let later = none_of_row number seen (All-tail (λ (s : Seen). number + 1 ≤ s.row) s seen from) in (
      ap (λ (b : Bool). cond b (s ∷ of_row number seen) (of_row number seen)) differ ∙ later.0,
      ap (λ (b : Bool). cond (cond b false true) (s ∷ others_of number seen) (others_of number seen)) differ
          ∙ ap (λ (ss : List Seen). s ∷ ss) later.1,
    )

-- in order, the sights of the first row stand before the others
parted : (number : ℕ) (seen : List Seen) → From number seen → AllPairs IsNoEarlier seen
    → seen ≡ of_row number seen ++ others_of number seen
parted number [] from in_order = refl
parted number (s ∷ seen) from in_order =
    by_row (is_of number s) refl
    (parted number seen (All-tail (λ (s : Seen). number ≤ s.row) s seen from)
    (λ i j d before inside. in_order (suc i) (suc j) d (omega arith) (omega arith)))
  where
    by_row : (b : Bool) → is_of number s ≡ b → seen ≡ of_row number seen ++ others_of number seen
        → s ∷ seen ≡ cond b (s ∷ of_row number seen) (of_row number seen)
        ++ cond (cond b false true) (s ∷ others_of number seen) (others_of number seen)
    by_row true same later = ap (λ (ss : List Seen). s ∷ ss) later
    by_row false differ later =
        let more : number + 1 ≤ s.row =
        omega (arith, All-head (λ (s : Seen). number ≤ s.row) s seen from, eqb-false s.row number differ) in
        let none =
        none_of_row number seen (λ k d inside. omega (arith, more, in_order 0 (suc k) d (omega arith) (omega arith))) in
        sym (ap (λ (ss : List Seen). ss ++ (s ∷ others_of number seen)) none.0 ∙ ap (λ (ss : List Seen). s ∷ ss) none.1)

others_later : (number : ℕ) (seen : List Seen) → From number seen → From (number + 1) (others_of number seen)
others_later number [] from = All-nil (λ (s : Seen). number + 1 ≤ s.row)
others_later number (s ∷ seen) from =
    by_row (is_of number s) refl (others_later number seen (All-tail (λ (s : Seen). number ≤ s.row) s seen from))
  where
    by_row : (b : Bool) → is_of number s ≡ b → From (number + 1) (others_of number seen)
        → From (number + 1) (cond (cond b false true) (s ∷ others_of number seen) (others_of number seen))
    by_row true same later = later
    by_row false differ later =
        All-cons (λ (s : Seen). number + 1 ≤ s.row) s (others_of number seen)
        (omega (arith, All-head (λ (s : Seen). number ≤ s.row) s seen from, eqb-false s.row number differ)) later

-- a later row has the same sights without those of an earlier row
same_of_row : (number row : ℕ) (seen : List Seen) → number ≢ row → of_row row (others_of number seen) ≡ of_row row seen
same_of_row number row [] differ = refl
same_of_row number row (s ∷ seen) differ = grind (arith, ne_eqb, eqb-true, same_of_row number row seen differ)

same_vertices : (number from : ℕ) (points : List Point) (seen : List Seen) → number < from
    → vertices_from from points (others_of number seen) ≡ vertices_from from points seen
same_vertices number from [] seen lt = refl
same_vertices number from (p ∷ points) seen lt =
    grind (arith, same_of_row, same_vertices number (from + 1) points seen (omega arith))

-- ---- what the rows show

of_this_row : (number : ℕ) (seen : List Seen) → All (λ (s : Seen). s.row ≡ number) (of_row number seen)
of_this_row number [] = All-nil (λ (s : Seen). s.row ≡ number)
of_this_row number (s ∷ seen) = grind (arith, eqb-true, of_this_row number seen)

abbrev a_sight : ℕ → ℕ → ℕ → Seen
a_sight row scanner weight = record { row = row; scanner = scanner; weight = weight }

-- sights of one row and one weight
same_sights : (number weight : ℕ) (seen : List Seen) → All (λ (s : Seen). s.row ≡ number) seen
    → All (λ (s : Seen). s.weight ≡ weight) seen
    → sights_in_row number weight (map (λ (s : Seen). s.scanner) seen) ≡ seen
same_sights number weight [] rows weights = refl
same_sights number weight (s ∷ seen) rows weights =
    ap (λ (n : ℕ). a_sight n s.scanner weight ∷ sights_in_row number weight (map (λ (t : Seen). t.scanner) seen))
    (sym (All-head (λ (s : Seen). s.row ≡ number) s seen rows))
    ∙ ap (λ (w : ℕ). a_sight s.row s.scanner w ∷ sights_in_row number weight (map (λ (t : Seen). t.scanner) seen))
    (sym (All-head (λ (s : Seen). s.weight ≡ weight) s seen weights))
    ∙ ap (λ (ss : List Seen). s ∷ ss)
    (same_sights number weight seen (All-tail (λ (s : Seen). s.row ≡ number) s seen rows)
    (All-tail (λ (s : Seen). s.weight ≡ weight) s seen weights))

-- sights of one row weigh as much as the first
weigh_alike : (number : ℕ) (seen : List Seen) → All (λ (s : Seen). s.row ≡ number) seen → AllPairs WeighsAlike seen
    → All (λ (s : Seen). s.weight ≡ weight_of seen) seen
weigh_alike number [] rows alike = All-nil (λ (s : Seen). s.weight ≡ 1)
weigh_alike number (s ∷ seen) rows alike =
    All-cons (λ (t : Seen). t.weight ≡ s.weight) s seen refl
    (λ k d inside. sym
    (alike 0 (suc k) d (omega arith) (omega arith)
    (All-head (λ (s : Seen). s.row ≡ number) s seen rows
    ∙ sym (All-tail (λ (s : Seen). s.row ≡ number) s seen rows k d inside))))

seen_again : (number : ℕ) (points : List Point) (seen : List Seen) → From number seen
    → All (λ (s : Seen). s.row < number + length points) seen → AllPairs IsNoEarlier seen → AllPairs WeighsAlike seen
    → seen_from number (vertices_from number points seen) ≡ seen
seen_again number [] [] from there in_order alike = refl
seen_again number [] (s ∷ seen) from there in_order alike =
    absurd (omega
    (arith, All-head (λ (s : Seen). number ≤ s.row) s seen from, All-head (λ (s : Seen). s.row < number + 0) s seen there))
seen_again number (p ∷ points) seen from there in_order alike =
    let first = of_row number seen in
    let others = others_of number seen in
    let rows = of_this_row number seen in
    let here : row_seen number (row_showing p first) ≡ first =
    same_sights number (weight_of first) first rows
    (weigh_alike number first rows (AllPairs-filter WeighsAlike (is_of number) seen alike)) in
    let behind = seen_again (number + 1) points others (others_later number seen from)
    (λ k d inside.
    omega (arith, All-filter (is_other number) (λ (s : Seen). s.row < number + length (p ∷ points)) seen there k d inside))
    (AllPairs-filter IsNoEarlier (is_other number) seen in_order) (AllPairs-filter WeighsAlike (is_other number) seen alike) in
    ap (λ (ss : List Seen). ss ++ seen_from (number + 1) (vertices_from (number + 1) points seen)) here
    ∙ ap (λ (vs : List VertexRow). first ++ seen_from (number + 1) vs)
    (sym (same_vertices number (number + 1) points seen (omega arith)))
    ∙ ap (λ (ss : List Seen). first ++ ss) behind
    ∙ sym (parted number seen from in_order)

points_again : (number : ℕ) (points : List Point) (seen : List Seen)
    → map (λ (row : VertexRow). row.point) (vertices_from number points seen) ≡ points
points_again number [] seen = refl
points_again number (p ∷ points) seen = ap (λ (ps : List Point). p ∷ ps) (points_again (number + 1) points seen)

-- the rows of what is shown show it
pub rows_show : (all : Shown) → IsShown all → shown_by (rows_showing all) ≡ all
rows_show all is =
    ap (λ (ps : List Point). shown ps all.scanners (seen_from 0 (vertices_from 0 all.points all.seen)))
    (points_again 0 all.points all.seen)
    ∙ ap (λ (ss : List Seen). shown all.points all.scanners ss)
    (seen_again 0 all.points all.seen (λ k d inside. omega arith) (λ k d inside. omega (arith, (is.seen k d inside).row))
    is.in_order is.of_one_weight)

-- ---- the rows are those of a scan

weight_fits : (points scanners : ℕ) (seen : List Seen) → All (IsSeen points scanners) seen
    → (1 ≤ weight_of seen) × (weight_of seen ≤ weight_limit)
weight_fits points scanners [] are = (omega arith, omega arith)
weight_fits points scanners (s ∷ seen) are =
    let first = All-head (IsSeen points scanners) s seen are in
    (first.least_weight, first.most_weight)

row_valid : (points scanners : ℕ) (p : Point) (seen : List Seen) → IsWithin DATA_LIMIT p → All (IsSeen points scanners) seen
    → IsVertexRow scanners (row_showing p seen)
row_valid points scanners p seen within are =
    let fits = weight_fits points scanners seen are in
    record {
      data_point = within;
      least_weight = fits.0;
      most_weight = fits.1;
      scanners_there = All-map (λ k. k < scanners) (λ (s : Seen). s.scanner) seen (λ k d inside. (are k d inside).scanner);
    }

rows_valid : (number count scanners : ℕ) (points : List Point) (seen : List Seen) → All (IsWithin DATA_LIMIT) points
    → All (IsSeen count scanners) seen → All (IsVertexRow scanners) (vertices_from number points seen)
rows_valid number count scanners [] seen within are = All-nil (IsVertexRow scanners)
rows_valid number count scanners (p ∷ points) seen within are =
    All-cons (IsVertexRow scanners) (row_showing p (of_row number seen)) (vertices_from (number + 1) points seen)
    (row_valid count scanners p (of_row number seen) (All-head (IsWithin DATA_LIMIT) p points within)
    (All-filter (is_of number) (IsSeen count scanners) seen are))
    (rows_valid (number + 1) count scanners points seen (All-tail (IsWithin DATA_LIMIT) p points within) are)

pub rows_are_scan : (all : Shown) → IsShown all → IsScan (rows_showing all)
rows_are_scan all is =
    let rows = vertices_from 0 all.points all.seen in
    let again = rows_show all is in
    record {
      vertices = rows_valid 0 (length all.points) (length all.scanners) all.points all.seen is.points is.seen;
      scanners = is.scanners;
      vertex_count =
          omega (
            arith,
            length-map rows (λ (row : VertexRow). row.point),
            ap (λ (ps : List Point). length ps) (points_again 0 all.points all.seen),
            is.point_count,
          );
      scanner_count = is.scanner_count;
      sight_count = omega (arith, length-seen_from 0 rows, ap (λ (s : Shown). length s.seen) again, is.sight_count);
    }
