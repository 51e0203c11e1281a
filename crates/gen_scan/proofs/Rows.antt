-- The rows that words make are those of a scan: points on the faces of a cube, each seen once.
use Rattle.std.proofs.Common.{◌≡◌, ℕ, ◌+◌, ◌*◌, ◌/◌, ◌%◌, ◌==◌, ◌<◌, ◌≤◌, Bool, true, false, cond, List, [], ◌∷◌}
use Rattle.std.proofs.Common.{length, map, sum_by, All, ℤ, pos, neg_ℤ, unsigned_abs, refl, sym, ap, subst, ◌∙◌, arith}
use Rattle.std.proofs.lemmas.List.{length-map}
use Rattle.std.proofs.lemmas.List.Elements.{All-nil, All-cons}
use Rattle.std.proofs.lemmas.List.Sums.{sum_by-cons}
use Rattle.geo_sign.specs.Point.{Point, IsWithin, point}
use Rattle.geo_sign.specs.declared.point.TheConstants.{DATA_LIMIT}
use Rattle.rand_core.specs.Steps.{first_words}
use Rattle.rand_pcg.specs.Pcg.{pcg32}
use Rattle.scan_rows.specs.declared.scan.Seen.{Seen}
use Rattle.scan_rows.specs.ScanRows.{VertexRow, IsVertexRow, sights_in, point_limit}
use Rattle.scan_rows.specs.Shown.{IsShown, shown_by}
use Rattle.scan_rows.proofs.ShownLemmas.{rows_are_shown}
use Rattle.gen_scan.specs.Generated.{on_axis, spread, generator, generated_row, rows_of_words, scanners, generated}
use Rattle.gen_scan.proofs.Words.{point_in}

abbrev IsSmall : ℤ → Type 0
IsSmall z = unsigned_abs z ≤ 1000

spread_small : (word : ℕ) → IsSmall (spread word)
spread_small word = grind arith

on_axis_within : (axis : ℕ) (along u v : ℤ) → IsSmall along → IsSmall u → IsSmall v
    → IsWithin DATA_LIMIT (on_axis axis along u v)
on_axis_within axis along u v a b c = by_axis (axis == 0) (axis == 1)
  where
    by_axis : (first second : Bool)
        → IsWithin DATA_LIMIT (cond first (point along u v) (cond second (point u along v) (point u v along)))
    by_axis true second = record { x_within = omega (arith, a); y_within = omega (arith, b); z_within = omega (arith, c) }
    by_axis false true = record { x_within = omega (arith, b); y_within = omega (arith, a); z_within = omega (arith, c) }
    by_axis false false = record { x_within = omega (arith, b); y_within = omega (arith, c); z_within = omega (arith, a) }

side_small : (b : Bool) → IsSmall (cond b (pos 1000) (neg_ℤ (pos 1000)))
side_small true = omega arith
side_small false = omega arith

row_valid : (number first second : ℕ) → IsVertexRow 6 (generated_row number first second)
row_valid number first second = record {
  data_point =
      on_axis_within ((number % 6) / 2) (cond ((number % 6) % 2 == 0) (pos 1000) (neg_ℤ (pos 1000))) (spread first)
      (spread second) (side_small ((number % 6) % 2 == 0)) (spread_small first) (spread_small second);
  least_weight = omega arith;
  most_weight = omega arith;
  scanners_there = All-cons (λ k. k < 6) (number % 6) [] (omega arith) (All-nil (λ k. k < 6));
}

rows_valid : (number : ℕ) (words : List ℕ) → All (IsVertexRow 6) (rows_of_words number words)
rows_valid number [] = All-nil (IsVertexRow 6)
rows_valid number (first ∷ []) = All-nil (IsVertexRow 6)
rows_valid number (first ∷ second ∷ words) =
    All-cons (IsVertexRow 6) (generated_row number first second) (rows_of_words (number + 1) words) (row_valid number first second)
    (rows_valid (number + 1) words)

one_sight_each : (number : ℕ) (words : List ℕ) → sights_in (rows_of_words number words) ≡ length (rows_of_words number words)
one_sight_each number [] = refl
one_sight_each number (first ∷ []) = refl
one_sight_each number (first ∷ second ∷ words) =
    omega (
      arith,
      sum_by-cons (λ (row : VertexRow). length row.seen_by) (generated_row number first second) (rows_of_words (number + 1) words),
      one_sight_each (number + 1) words,
    )

-- what is generated is what a scan may show
pub generated_is_shown : (count seed : ℕ) → length (shown_by (generated count seed)).points ≡ count → count ≤ point_limit
    → All (IsWithin DATA_LIMIT) scanners → IsShown (shown_by (generated count seed))
generated_is_shown count seed counted few places =
    let words = first_words pcg32 (count * 2) (generator seed) in
    let rows = rows_of_words 0 words in
    let number : length rows ≡ count = sym (length-map rows point_in) ∙ counted in
    rows_are_shown (generated count seed) (record {
      vertices = rows_valid 0 words;
      scanners = places;
      vertex_count = omega (arith, number, few);
      scanner_count = omega arith;
      sight_count = omega (arith, one_sight_each 0 words, number, few);
    })

-- the lists of a generated scan are what a scan may show
pub lists_are_shown : (count seed : ℕ) (points places : List Point) (seen : List Seen)
    → points ≡ (shown_by (generated count seed)).points → seen ≡ (shown_by (generated count seed)).seen → places ≡ scanners
    → length points ≡ count → count ≤ point_limit → All (IsWithin DATA_LIMIT) places
    → IsShown (record { points = points; scanners = places; seen = seen })
lists_are_shown count seed points places seen points_are seen_are places_are counted few data_points =
    rw (points_are, seen_are, places_are)
    (generated_is_shown count seed (sym (ap (λ (ps : List Point). length ps) points_are) ∙ counted) few
    (subst (All (IsWithin DATA_LIMIT)) places_are data_points))
