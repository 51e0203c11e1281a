-- What the rows of a scan show: each sight is of a point and a scanner that are there, and sights stand in the order of
-- their points. Rows one behind another show their sights one behind another.
--
-- The sights of rows are those of the first row and then those of later rows. Of the first row all have its number and its
-- weight (of_row), and those behind have greater numbers (AreSeen), so pairs are in order, and alike in weight where they
-- are of one row (pairs_append with its three cases: both in front, both behind, one of each): rows_seen, by the list.
-- seen_from-append says that rows that come later are numbered on from those before.
use Rattle.std.proofs.Common.{◌≡◌, ℕ, suc, ◌+◌, ◌<◌, ◌≤◌, List, [], ◌∷◌, ◌++◌, length, map, get_or, All, AllPairs, refl, sym}
use Rattle.std.proofs.Common.{◌∙◌, arith, append_assoc, length-append}
use Rattle.std.proofs.lemmas.List.{length-map}
use Rattle.std.proofs.lemmas.List.Elements.{All-head, All-tail, All-map, All-append}
use Rattle.std.proofs.lemmas.List.Kept.{AllPairs-cons}
use Rattle.std.proofs.lemmas.List.Sums.{sum_by-cons}
use Rattle.geo_sign.specs.Point.{Point, IsWithin}
use Rattle.geo_sign.specs.declared.point.TheConstants.{DATA_LIMIT}
use Rattle.scan_rows.specs.declared.scan.Seen.{Seen}
use Rattle.scan_rows.specs.declared.scan.Scan.{Scan}
use Rattle.scan_rows.specs.ScanRows.{VertexRow, ScanRows, IsVertexRow, IsScan, sights_in}
use Rattle.scan_rows.specs.Shown.{Shown, row_seen, seen_from, shown_by, IsSeen, IsNoEarlier, WeighsAlike, IsShown}
use Rattle.scan_rows.specs.Views.{shown_of}

abbrev pub shown : List Point → List Point → List Seen → Shown
shown points scanners seen = record { points = points; scanners = scanners; seen = seen }

abbrev pub point_in : VertexRow → Point
point_in row = row.point

-- ---- facts of pairs

pairs_of : {X : Type 0} (P : X → Type 0) (R : X → X → Type 0) (xs : List X) → ((x y : X) → P x → P y → R x y) → All P xs
    → AllPairs R xs
pairs_of P R xs both all i j d before inside = both (get_or xs i d) (get_or xs j d) (all i d (omega arith)) (all j d inside)

pairs_append : {X : Type 0} (P Q : X → Type 0) (R : X → X → Type 0) (xs ys : List X) → ((x y : X) → P x → Q y → R x y)
    → All P xs → All Q ys → AllPairs R xs → AllPairs R ys → AllPairs R (xs ++ ys)
pairs_append P Q R [] ys both ps qs first second = second
pairs_append P Q R (x ∷ xs) ys both ps qs first second =
    AllPairs-cons R x (xs ++ ys)
    (All-append (R x) xs ys (λ k d inside. first 0 (suc k) d (omega arith) (omega arith))
    (λ k d inside. both x (get_or ys k d) (All-head P x xs ps) (qs k d inside)))
    (pairs_append P Q R xs ys both (All-tail P x xs ps) qs
    (λ i j d before inside. first (suc i) (suc j) d (omega arith) (omega arith)) second)

all_weaker : {X : Type 0} (P Q : X → Type 0) (xs : List X) → ((x : X) → P x → Q x) → All P xs → All Q xs
all_weaker P Q xs weaker all k d inside = weaker (get_or xs k d) (all k d inside)

-- ---- sights

-- a sight of a row of this number and weight
record IsOf (number weight : ℕ) (seen : Seen) : Type 0 where
  number_is : seen.row ≡ number
  weight_is : seen.weight ≡ weight

of_row : (number : ℕ) (row : VertexRow) → All (IsOf number row.weight) (row_seen number row)
of_row number row =
    All-map (IsOf number row.weight) (λ (k : ℕ). record { row = number; scanner = k; weight = row.weight }) row.seen_by
    (λ k d inside. record { number_is = refl; weight_is = refl })

row_there : (points scanners number : ℕ) (row : VertexRow) → number < points → IsVertexRow scanners row
    → All (IsSeen points scanners) (row_seen number row)
row_there points scanners number row there is =
    All-map (IsSeen points scanners) (λ (k : ℕ). record { row = number; scanner = k; weight = row.weight }) row.seen_by
    (λ k d inside. record {
      row = there;
      scanner = is.scanners_there k d inside;
      least_weight = is.least_weight;
      most_weight = is.most_weight;
    })

-- what is kept of the sights of rows that are numbered from a number on
record AreSeen (number points scanners : ℕ) (seen : List Seen) : Type 0 where
  from : All (λ (s : Seen). number ≤ s.row) seen
  there : All (IsSeen points scanners) seen
  in_order : AllPairs IsNoEarlier seen
  of_one_weight : AllPairs WeighsAlike seen

no_earlier : (number weight : ℕ) (x y : Seen) → IsOf number weight x → number + 1 ≤ y.row → IsNoEarlier x y
no_earlier number weight x y of later = omega (arith, of.number_is, later)

weighs_alike : (number weight : ℕ) (x y : Seen) → IsOf number weight x → number + 1 ≤ y.row → WeighsAlike x y
weighs_alike number weight x y of later same = absurd (omega (arith, of.number_is, later, same))

rows_seen : (number points scanners : ℕ) (rows : List VertexRow) → number + length rows ≤ points
    → All (IsVertexRow scanners) rows → AreSeen number points scanners (seen_from number rows)
rows_seen number points scanners [] fit are = grind arith
rows_seen number points scanners (row ∷ rows) fit are =
    let first = row_seen number row in
    let others = seen_from (number + 1) rows in
    let later =
    rows_seen (number + 1) points scanners rows (omega (arith, fit)) (All-tail (IsVertexRow scanners) row rows are) in
    let of = of_row number row in
    record {
      from =
          All-append (λ (s : Seen). number ≤ s.row) first others
          (all_weaker (IsOf number row.weight) (λ (s : Seen). number ≤ s.row) first (λ s is. omega (arith, is.number_is)) of)
          (all_weaker (λ (s : Seen). number + 1 ≤ s.row) (λ (s : Seen). number ≤ s.row) others (λ s is. omega (arith, is))
          later.from);
      there =
          All-append (IsSeen points scanners) first others
          (row_there points scanners number row (omega (arith, fit)) (All-head (IsVertexRow scanners) row rows are))
          later.there;
      in_order =
          pairs_append (IsOf number row.weight) (λ (s : Seen). number + 1 ≤ s.row) IsNoEarlier first others
          (no_earlier number row.weight) of later.from
          (pairs_of (IsOf number row.weight) IsNoEarlier first (λ x y one other. omega (arith, one.number_is, other.number_is))
          of) later.in_order;
      of_one_weight =
          pairs_append (IsOf number row.weight) (λ (s : Seen). number + 1 ≤ s.row) WeighsAlike first others
          (weighs_alike number row.weight) of later.from
          (pairs_of (IsOf number row.weight) WeighsAlike first (λ x y one other same. one.weight_is ∙ sym other.weight_is) of)
          later.of_one_weight;
    }

-- as many sights as the rows have
pub length-seen_from : (number : ℕ) (rows : List VertexRow) → length (seen_from number rows) ≡ sights_in rows
length-seen_from number [] = refl
length-seen_from number (row ∷ rows) =
    omega (
      arith,
      length-append (row_seen number row) (seen_from (number + 1) rows),
      length-map row.seen_by (λ (k : ℕ). a_sight number k row.weight),
      length-seen_from (number + 1) rows,
      sum_by-cons (λ (r : VertexRow). length r.seen_by) row rows,
    )
  where
    a_sight : ℕ → ℕ → ℕ → Seen
    a_sight number k weight = record { row = number; scanner = k; weight = weight }

-- what the rows of a scan show is what a scan may show
pub rows_are_shown : (rows : ScanRows) → IsScan rows → IsShown (shown_by rows)
rows_are_shown rows is =
    let count : length rows.vertices ≡ length (map point_in rows.vertices) = sym (length-map rows.vertices point_in) in
    let seen =
    rows_seen 0 (length (map point_in rows.vertices)) (length rows.scanners) rows.vertices (omega (arith, count)) is.vertices in
    record {
      points = All-map (IsWithin DATA_LIMIT) point_in rows.vertices (λ k d inside. (is.vertices k d inside).data_point);
      scanners = is.scanners;
      seen = seen.there;
      in_order = seen.in_order;
      of_one_weight = seen.of_one_weight;
      point_count = omega (arith, count, is.vertex_count);
      scanner_count = is.scanner_count;
      sight_count = omega (arith, length-seen_from 0 rows.vertices, is.sight_count);
    }

-- what a scan keeps
pub scan_is_shown : (scan : Scan) → IsShown (shown_of scan)
scan_is_shown scan = grind arith

-- ---- rows one behind another

-- what rows and then others show
pub seen_from-append : (number : ℕ) (rows others : List VertexRow)
    → seen_from number (rows ++ others) ≡ seen_from number rows ++ seen_from (number + length rows) others
seen_from-append number [] others = grind arith
seen_from-append number (row ∷ rows) others = grind (arith, append_assoc, seen_from-append (number + 1) rows others)
