-- The rows that the words of a generator make, one after another.
use Rattle.std.proofs.Common.{◌≡◌, ℕ, zero, suc, ◌+◌, ◌-◌, ◌*◌, ◌<◌, ◌≤◌, List, [], ◌∷◌, ◌++◌, map, refl, ap, sym, ◌∙◌, arith}
use Rattle.std.proofs.Common.{append_assoc, append-nil}
use Rattle.geo_sign.specs.Point.{Point}
use Rattle.rand_core.specs.Steps.{first_words}
use Rattle.rand_pcg.specs.Lcg.{Lcg}
use Rattle.rand_pcg.specs.Pcg.{pcg32}
use Rattle.scan_rows.specs.declared.scan.Seen.{Seen}
use Rattle.scan_rows.specs.ScanRows.{VertexRow}
use Rattle.scan_rows.specs.Shown.{row_seen, seen_from}
use Rattle.gen_scan.specs.Generated.{generated_row, rows_of_words}

-- the rows from a number on, of so many in all
abbrev pub rows_left : ℕ → ℕ → Lcg → List VertexRow
rows_left number count g = rows_of_words number (first_words pcg32 ((count - number) * 2) g)

-- the row of a number, made of the next two words
abbrev pub next_row : ℕ → Lcg → VertexRow
next_row number g = generated_row number (pcg32 g).0 (pcg32 (pcg32 g).1).0

-- the generator behind these words
abbrev pub behind_row : Lcg → Lcg
behind_row g = (pcg32 (pcg32 g).1).1

abbrev pub point_in : VertexRow → Point
point_in row = row.point

-- two words more make one row more
two_words : (number words : ℕ) (g : Lcg)
    → rows_of_words number (first_words pcg32 (suc (suc words)) g)
    ≡ next_row number g ∷ rows_of_words (number + 1) (first_words pcg32 words (behind_row g))
unfolding first_words
two_words number words g = refl

-- the next of so many rows
one_more_row : (number count : ℕ) (g : Lcg) → number < count
    → rows_left number count g ≡ next_row number g ∷ rows_left (number + 1) count (behind_row g)
one_more_row number count g lt =
    let left : (count - number) * 2 ≡ suc (suc ((count - (number + 1)) * 2)) = omega arith in
    ap (λ m. rows_of_words number (first_words pcg32 m g)) left ∙ two_words number ((count - (number + 1)) * 2) g

-- no row is left
no_rows : (number count : ℕ) (g : Lcg) → count ≤ number → rows_left number count g ≡ []
unfolding first_words
no_rows number count g le =
    let none : (count - number) * 2 ≡ zero = omega arith in
    ap (λ m. rows_of_words number (first_words pcg32 m g)) none

-- the points so far with one more, and then the others
pub one_more_point : (points more all : List Point) (number count : ℕ) (g behind : Lcg) → number < count
    → more ≡ points ++ point_in (next_row number g) ∷ [] → behind ≡ behind_row g
    → points ++ map point_in (rows_left number count g) ≡ all → more ++ map point_in (rows_left (number + 1) count behind) ≡ all
one_more_point points more all number count g behind lt more_is behind_is so_far =
    rw (more_is, behind_is)
    (append_assoc points (point_in (next_row number g) ∷ []) (map point_in (rows_left (number + 1) count (behind_row g)))
    ∙ ap (λ rows. points ++ map point_in rows) (sym (one_more_row number count g lt))
    ∙ so_far)

-- the sights so far with one more, and then the others
pub one_more_sight : (seen more all : List Seen) (number count : ℕ) (g behind : Lcg) → number < count
    → more ≡ seen ++ row_seen number (next_row number g) → behind ≡ behind_row g
    → seen ++ seen_from number (rows_left number count g) ≡ all
    → more ++ seen_from (number + 1) (rows_left (number + 1) count behind) ≡ all
one_more_sight seen more all number count g behind lt more_is behind_is so_far =
    rw (more_is, behind_is)
    (append_assoc seen (row_seen number (next_row number g))
    (seen_from (number + 1) (rows_left (number + 1) count (behind_row g)))
    ∙ ap (λ rows. seen ++ seen_from number rows) (sym (one_more_row number count g lt))
    ∙ so_far)

pub all_points : (points all : List Point) (number count : ℕ) (g : Lcg) → count ≤ number
    → points ++ map point_in (rows_left number count g) ≡ all → points ≡ all
all_points points all number count g le is =
    sym (append-nil points) ∙ ap (λ rows. points ++ map point_in rows) (sym (no_rows number count g le)) ∙ is

pub all_sights : (seen all : List Seen) (number count : ℕ) (g : Lcg) → count ≤ number
    → seen ++ seen_from number (rows_left number count g) ≡ all → seen ≡ all
all_sights seen all number count g le is =
    sym (append-nil seen) ∙ ap (λ rows. seen ++ seen_from number rows) (sym (no_rows number count g le)) ∙ is
