-- The lines of a scan's points, printed one after another: the sights of a row stand side by side among all sights, since
-- these stand in the order of their points.
--
-- The code keeps a place among the sights: all before it are of rows before this one, and no other is (IsCut). The sights
-- from there that are of this row (IsRun) lead to the place of the next row (next_cut), and are all sights of the row
-- (row_between, as a filter that passes one stretch alone is that stretch: kept_between). So one line more is printed
-- (one_more_line), and one row more has one sight of weight 1 or is the first that has not, which decides the form
-- (once_more, not_once). parts_printed puts header, points and scanners together.
use Rattle.std.proofs.Common.{◌≡◌, ◌≢◌, ℕ, zero, suc, ◌+◌, ◌-◌, ◌<◌, ◌≤◌, ◌==◌, Bool, true, false, ◌&&◌, not, cond, List, []}
use Rattle.std.proofs.Common.{◌∷◌, ◌++◌, length, filter, take, drop, get_or, AllPairs, inl, inr, refl, sym, ap, subst, ◌∙◌}
use Rattle.std.proofs.Common.{arith, append_assoc}
use Rattle.std.specs.List.{flat_map, list_all}
use Rattle.std.proofs.lemmas.Bool.{cases_lt, eq-eqb, ne_eqb}
use Rattle.std.proofs.lemmas.List.{flat_map_more, take_more, take-append-drop, length-take-le}
use Rattle.std.proofs.lemmas.List.Folds.{list_all-append}
use Rattle.geo_sign.specs.Point.{Point}
use Rattle.scan_rows.specs.declared.scan.Seen.{Seen}
use Rattle.scan_rows.specs.ScanRows.{VertexRow}
use Rattle.scan_rows.specs.Shown.{Shown, IsNoEarlier}
use Rattle.scan.specs.PlainForm.{header, vertex_line, scanner_line, is_once, is_wide, of_row, row_showing, vertices_from}
use Rattle.scan.specs.PlainForm.{scan_text}

-- ---- the sights of one row

-- a place among sights: those before it are of rows before one, and no other is
pub record IsCut (seen : List Seen) (place row : ℕ) : Type 0 where
  pub inside : place ≤ length seen
  pub before : (k : ℕ) (d : Seen) → k < place → (get_or seen k d).row < row
  pub after : (k : ℕ) (d : Seen) → place ≤ k → k < length seen → row ≤ (get_or seen k d).row

-- from one place to another all sights are of a row, and the next is not
pub record IsRun (seen : List Seen) (start end row : ℕ) : Type 0 where
  pub least : start ≤ end
  pub most : end ≤ length seen
  pub inside : (k : ℕ) (d : Seen) → start ≤ k → k < end → (get_or seen k d).row ≡ row
  pub ends : (d : Seen) → end < length seen → (get_or seen end d).row ≢ row

-- the place behind the sights of a row
pub next_cut : (seen : List Seen) (start end row : ℕ) → AllPairs IsNoEarlier seen → IsCut seen start row
    → IsRun seen start end row → IsCut seen end (row + 1)
next_cut seen start end row in_order cut run = record { inside = run.most; before = earlier; after = later }
  where
    earlier : (k : ℕ) (d : Seen) → k < end → (get_or seen k d).row < row + 1
    earlier k d lt = elim (cases_lt k start) [
      | inl before ↦ omega (arith, cut.before k d before)
      | inr there ↦ omega (arith, run.inside k d there lt)
    ]

    at_end : (d : Seen) → end < length seen → row + 1 ≤ (get_or seen end d).row
    at_end d inside = above (get_or seen end d).row (cut.after end d run.least inside) (run.ends d inside)
      where
        above : (n : ℕ) → row ≤ n → n ≢ row → row + 1 ≤ n
        above n le differ = elim (cases_lt row n) [
          | inl lt ↦ omega (arith, lt)
          | inr ge ↦ absurd (differ (omega (arith, le, ge)))
        ]

    later : (k : ℕ) (d : Seen) → end ≤ k → k < length seen → row + 1 ≤ (get_or seen k d).row
    later k d ge inside = elim (cases_lt end k) [
      | inl lt ↦ omega (arith, at_end d (omega (arith, lt, inside)), in_order end k d lt inside)
      | inr le ↦
          let same : k ≡ end = omega (arith, ge, le) in
          subst (λ (n : ℕ). row + 1 ≤ (get_or seen n d).row) (sym same) (at_end d (omega (arith, same, inside)))
    ]

-- the sights that pass a test, where they stand side by side
kept_between : (test : Seen → Bool) (seen : List Seen) (start end : ℕ) → start ≤ end
    → ((k : ℕ) → k < start → k < length seen → (d : Seen) → test (get_or seen k d) ≡ false)
    → ((k : ℕ) → start ≤ k → k < end → k < length seen → (d : Seen) → test (get_or seen k d) ≡ true)
    → ((k : ℕ) → end ≤ k → k < length seen → (d : Seen) → test (get_or seen k d) ≡ false)
    → filter test seen ≡ take (end - start) (drop start seen)
kept_between test [] start end le before inside after = sym (nothing start (end - start))
  where
    no_sights : List Seen
    no_sights = []

    nothing : (n m : ℕ) → take m (drop n no_sights) ≡ no_sights
    nothing zero zero = refl
    nothing zero (suc m) = refl
    nothing (suc n) zero = refl
    nothing (suc n) (suc m) = refl
kept_between test (s ∷ seen) (suc start) zero le before inside after = absurd (omega (arith, le))
kept_between test (s ∷ seen) (suc start) (suc end) le before inside after =
    ap (λ (b : Bool). cond b (s ∷ filter test seen) (filter test seen)) (before 0 (omega arith) (omega arith) s)
    ∙ kept_between test seen start end (omega (arith, le))
    (λ k lt there d. before (suc k) (omega (arith, lt)) (omega (arith, there)) d)
    (λ k ge lt there d. inside (suc k) (omega (arith, ge)) (omega (arith, lt)) (omega (arith, there)) d)
    (λ k ge there d. after (suc k) (omega (arith, ge)) (omega (arith, there)) d)
    ∙ ap (λ (n : ℕ). take n (drop start seen)) (less start end)
  where
    less : (n m : ℕ) → m - n ≡ suc m - suc n
    less n m = omega arith
kept_between test (s ∷ seen) zero (suc end) le before inside after =
    ap (λ (b : Bool). cond b (s ∷ filter test seen) (filter test seen)) (inside 0 (omega arith) (omega arith) (omega arith) s)
    ∙ ap (λ (ss : List Seen). s ∷ ss)
    (kept_between test seen zero end (omega arith) (λ k lt there d. absurd (omega (arith, lt)))
    (λ k ge lt there d. inside (suc k) (omega arith) (omega (arith, lt)) (omega (arith, there)) d)
    (λ k ge there d. after (suc k) (omega (arith, ge)) (omega (arith, there)) d))
    ∙ ap (λ (n : ℕ). take n (s ∷ seen)) (all_less end)
  where
    all_less : (m : ℕ) → suc (m - 0) ≡ suc m - 0
    all_less m = omega arith
kept_between test (s ∷ seen) zero zero le before inside after =
    ap (λ (b : Bool). cond b (s ∷ filter test seen) (filter test seen)) (after 0 (omega arith) (omega arith) s)
    ∙ kept_between test seen zero zero (omega arith) (λ k lt there d. absurd (omega (arith, lt)))
    (λ k ge lt there d. absurd (omega (arith, lt))) (λ k ge there d. after (suc k) (omega arith) (omega (arith, there)) d)

-- the sights of a row are those between the places
pub row_between : (seen : List Seen) (start end row : ℕ) → AllPairs IsNoEarlier seen → IsCut seen start row
    → IsRun seen start end row → of_row row seen ≡ take (end - start) (drop start seen)
row_between seen start end row in_order cut run =
    let next = next_cut seen start end row in_order cut run in
    kept_between (λ (s : Seen). s.row == row) seen start end run.least
    (λ k lt there d. ne_eqb (get_or seen k d).row row (λ same. omega (arith, cut.before k d lt, same)))
    (λ k ge lt there d. eq-eqb (get_or seen k d).row row (run.inside k d ge lt))
    (λ k ge there d. ne_eqb (get_or seen k d).row row (λ same. omega (arith, next.after k d ge there, same)))

-- ---- rows one after another

vertices_append : (number : ℕ) (points more : List Point) (seen : List Seen)
    → vertices_from number (points ++ more) seen
    ≡ vertices_from number points seen ++ vertices_from (number + length points) more seen
vertices_append number [] more seen = grind arith
vertices_append number (p ∷ points) more seen = grind (arith, vertices_append (number + 1) points more seen)

-- the rows so far, with one more
one_more_row : (points : List Point) (seen : List Seen) (i : ℕ) (p : Point) → i < length points → p ≡ get_or points i p
    → vertices_from 0 (take (i + 1) points) seen ≡ vertices_from 0 (take i points) seen ++ row_showing p (of_row i seen) ∷ []
one_more_row points seen i p lt is =
    let so_many : length (take i points) ≡ i = length-take-le i points (omega arith) in
    ap (λ (ps : List Point). vertices_from 0 ps seen) (take_more points i p lt)
    ∙ vertices_append 0 (take i points) (get_or points i p ∷ []) seen
    ∙ ap (λ (q : Point). vertices_from 0 (take i points) seen ++ row_showing q (of_row (0 + length (take i points)) seen) ∷ [])
    (sym is)
    ∙ ap (λ (n : ℕ). vertices_from 0 (take i points) seen ++ row_showing p (of_row n seen) ∷ []) (omega (arith, so_many))

-- one more line of the vertex rows
pub one_more_line : (wide : Bool) (points : List Point) (seen : List Seen) (start end i : ℕ) (p : Point) (sights : List Seen)
    (first now next : List ℕ)
    → i < length points → p ≡ get_or points i p → AllPairs IsNoEarlier seen → IsCut seen start i → IsRun seen start end i
    → sights ≡ take (end - start) (drop start seen)
    → now ≡ first ++ flat_map (vertex_line wide) (vertices_from 0 (take i points) seen)
    → next ≡ now ++ vertex_line wide (row_showing p sights)
    → next ≡ first ++ flat_map (vertex_line wide) (vertices_from 0 (take (i + 1) points) seen)
one_more_line wide points seen start end i p sights first now next lt is_point in_order cut run sights_are so_far printed =
    printed
    ∙ ap (λ (ss : List Seen). now ++ vertex_line wide (row_showing p ss))
    (sights_are ∙ sym (row_between seen start end i in_order cut run))
    ∙ ap (λ (text : List ℕ). text ++ vertex_line wide (row_showing p (of_row i seen))) so_far
    ∙ flat_map_more (vertex_line wide) first (vertices_from 0 (take i points) seen) (row_showing p (of_row i seen))
    ∙ ap (λ (rows : List VertexRow). first ++ flat_map (vertex_line wide) rows) (sym (one_more_row points seen i p lt is_point))

-- ---- the form that is due

-- all rows so far are seen once
abbrev pub AllOnce : List Point → List Seen → Type 0
AllOnce points seen = list_all is_once (vertices_from 0 points seen) ≡ true

pub once_more : (points : List Point) (seen : List Seen) (start end i : ℕ) (p : Point) (sights : List Seen) → i < length points
    → p ≡ get_or points i p → AllPairs IsNoEarlier seen → IsCut seen start i → IsRun seen start end i
    → sights ≡ take (end - start) (drop start seen) → is_once (row_showing p sights) ≡ true → AllOnce (take i points) seen
    → AllOnce (take (i + 1) points) seen
once_more points seen start end i p sights lt is_point in_order cut run sights_are once so_far =
    let here : is_once (row_showing p (of_row i seen)) ≡ true =
    ap (λ (ss : List Seen). is_once (row_showing p ss)) (row_between seen start end i in_order cut run ∙ sym sights_are) ∙ once in
    ap (λ (rows : List VertexRow). list_all is_once rows) (one_more_row points seen i p lt is_point)
    ∙ list_all-append is_once (vertices_from 0 (take i points) seen) (row_showing p (of_row i seen) ∷ [])
    ∙ ap (λ (b : Bool). b && (is_once (row_showing p (of_row i seen)) && true)) so_far
    ∙ ap (λ (b : Bool). b && true) here

pub not_once : (points : List Point) (seen : List Seen) (start end i : ℕ) (p : Point) (sights : List Seen) → i < length points
    → p ≡ get_or points i p → AllPairs IsNoEarlier seen → IsCut seen start i → IsRun seen start end i
    → sights ≡ take (end - start) (drop start seen) → is_once (row_showing p sights) ≡ false → AllOnce (take i points) seen
    → is_wide (vertices_from 0 points seen) ≡ true
not_once points seen start end i p sights lt is_point in_order cut run sights_are other so_far =
    let here : is_once (row_showing p (of_row i seen)) ≡ false =
    ap (λ (ss : List Seen). is_once (row_showing p ss)) (row_between seen start end i in_order cut run ∙ sym sights_are) ∙ other in
    let rest = vertices_from (0 + length (take (i + 1) points)) (drop (i + 1) points) seen in
    ap (λ (ps : List Point). is_wide (vertices_from 0 ps seen)) (sym (take-append-drop (i + 1) points))
    ∙ ap is_wide
    (vertices_append 0 (take (i + 1) points) (drop (i + 1) points) seen
    ∙ ap (λ (rows : List VertexRow). rows ++ rest) (one_more_row points seen i p lt is_point))
    ∙ ap is_wide (append_assoc (vertices_from 0 (take i points) seen) (row_showing p (of_row i seen) ∷ []) rest)
    ∙ ap not (list_all-append is_once (vertices_from 0 (take i points) seen) (row_showing p (of_row i seen) ∷ rest))
    ∙ ap (λ (b : Bool). not (b && (is_once (row_showing p (of_row i seen)) && list_all is_once rest))) so_far
    ∙ ap (λ (b : Bool). not (b && list_all is_once rest)) here

-- ---- the parts of a text

vertices_count : (number : ℕ) (points : List Point) (seen : List Seen)
    → length (vertices_from number points seen) ≡ length points
vertices_count number [] seen = refl
vertices_count number (p ∷ points) seen = ap suc (vertices_count (number + 1) points seen)

-- the parts one after another are the text
pub parts_printed : (shown : Shown) (wide : Bool) (n m : ℕ) (old with_header with_vertices new : List ℕ)
    → wide ≡ is_wide (vertices_from 0 shown.points shown.seen) → n ≡ length shown.points → m ≡ length shown.scanners
    → with_header ≡ old ++ header wide n m
    → with_vertices ≡ with_header ++ flat_map (vertex_line wide) (vertices_from 0 shown.points shown.seen)
    → new ≡ with_vertices ++ flat_map scanner_line shown.scanners
    → new ≡ old ++ scan_text shown
parts_printed shown wide n m old with_header with_vertices new due n_is m_is first second third =
    grind (arith, append_assoc, vertices_count)
