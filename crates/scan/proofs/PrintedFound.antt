-- What the rows of a printed scan say: the rows that were printed.
--
-- The text is cut where each word stands: the bytes in front of it, the word, and the rest (word_at). So the three
-- coordinates of a line are read at their places (point_said, from StandAt), and so are the numbers behind them (NumbersAt,
-- one number less at each step). A decimal that was printed is read as its number, and all are within the limits that
-- reading tests. once_read puts that together for a row of the plain form, wide_read for one of the wide form with its list,
-- place_read for a scanner. vertices_found and scanners_found go through the lines, each with the text in front longer by
-- the line before, and printed_found is both, from the first byte on.
use Rattle.std.proofs.Common.{◌≡◌, ℕ, ◌+◌, ◌<◌, ◌≤◌, ◌==◌, Bool, true, false, ◌||◌, cond, ltb, List, [], ◌∷◌, ◌++◌, length, map}
use Rattle.std.proofs.Common.{take, drop, All, decimal, ℤ, pos, unsigned_abs, Result, Ok, Err, refl, sym, ap, subst, ◌∙◌, arith}
use Rattle.std.proofs.Common.{append_assoc, length-append}
use Rattle.std.specs.Fmt.{signed_decimal}
use Rattle.std.specs.List.{flat_map}
use Rattle.std.proofs.lemmas.Bool.{lt-ltb, le-ltb}
use Rattle.std.proofs.lemmas.Bool.Decides.{nat_tests}
use Rattle.std.proofs.lemmas.List.{append-nil, length-map}
use Rattle.std.proofs.lemmas.List.Elements.{All-head, All-tail}
use Rattle.std.proofs.lemmas.List.Sums.{sum_by-cons}
use Rattle.std.proofs.Math.Seq.{take-append_seam, drop-append_seam}
use Rattle.geo_sign.specs.Point.{Point, IsWithin}
use Rattle.num_text.specs.WholeNumbers.{whole_of}
use Rattle.num_text.specs.Decimals.{scaled_of}
use Rattle.num_text.proofs.PrintedLemmas.{whole_of-signed_decimal, scaled_of-signed_decimal}
use Rattle.ply_head.specs.declared.header.Kind.TheVariants.{Ascii}
use Rattle.ply_head.specs.declared.header.Scalar.TheVariants.{Int}
use Rattle.ply_head.proofs.Answers.{done}
use Rattle.ply_rows.specs.declared.place.Field.{Field}
use Rattle.ply_rows.specs.declared.place.Place as rows
use Rattle.ply_rows.specs.declared.place.RowAt.{RowAt}
use Rattle.ply_rows.specs.Tokens.{Token, tokens_from, tokens_at}
use Rattle.ply_rows.specs.Texts.{field_of_items}
use Rattle.ply_rows.specs.Items.{items_in}
use Rattle.scan.specs.declared.refusal.ScanRefusal.{ScanRefusal}
use Rattle.scan.specs.declared.refusal.ScanRefusal.TheVariants.{NoSuchScanner, BadWeight, TooManySights}
use Rattle.num_text.specs.Separators.{space}
use Rattle.scan.specs.PlainForm.{coordinates, line, numbers_behind_point, vertex_line, scanner_line}
use Rattle.scan_rows.specs.ScanRows.{VertexRow, ScanRows, sights_in, scanner_limit, sight_limit, weight_limit}
use Rattle.scan.specs.Found.{Body, Row, row_in, told, coordinate_of, number_in, point_in_columns, weighed, weight_said, few_sights, one_of, each_of}
use Rattle.scan.specs.Found.{scanner_named, scanners_said, vertex_said, scanner_said, row_said, no_rows, one_vertex}
use Rattle.scan.specs.Found.{one_scanner, found_in}
use Rattle.scan.proofs.PrintedHeads.{first_axes, printed_scanners, printed_plan}
use Rattle.scan.proofs.PrintedLines.{y_place, z_place, end_place, coordinates-append, end_byte, behind, line-append, next_place}
use Rattle.scan.proofs.PrintedLines.{numbers_end, number_tokens, Fit, numbers_cut, length-coordinates, line_length}
use Rattle.scan.proofs.PrintedRows.{first_of, once_row, once_is, IsPrinted, scanners_fit, point_fields, list_place, seen_fields}
use Rattle.scan.proofs.PrintedRows.{vertex_fields, vertex_end, Given, row_at, given_vertices, vertices_end, given_scanners}
use Rattle.scan.proofs.PrintedRows.{given_rows, printed_body}
use Rattle.geo_sign.specs.declared.point.TheConstants.{DATA_LIMIT}

abbrev pub text_body : List ℕ → Body
text_body bytes = record { kind = Ascii; bytes = bytes; unit = 1 }

abbrev text_row : List ℕ → RowAt → List Field → Row
text_row bytes at fields = row_in (text_body bytes) at fields

-- ---- coordinates

-- a word where it stands
word_at : (bytes front word rest : List ℕ) (place : ℕ) → bytes ≡ front ++ (word ++ rest) → place ≡ length front
    → take (length word) (drop place bytes) ≡ word
word_at bytes front word rest place is at =
    ap (λ (xs : List ℕ). take (length word) (drop place xs)) is
    ∙ ap (λ (n : ℕ). take (length word) (drop n (front ++ (word ++ rest)))) at
    ∙ ap (take (length word)) (drop-append_seam front (word ++ rest))
    ∙ take-append_seam word rest

-- three coordinates one behind another
record StandAt (bytes : List ℕ) (place : ℕ) (p : Point) (rest : List ℕ) : Type 0 where
  front : List ℕ
  at : place ≡ length front
  is : bytes ≡ front ++ (coordinates p ++ rest)

x_stands : (bytes : List ℕ) (place : ℕ) (p : Point) (rest : List ℕ) → StandAt bytes place p rest
    → take (length (signed_decimal p.x)) (drop place bytes) ≡ signed_decimal p.x
x_stands bytes place p rest stand = grind (arith, word_at, coordinates-append)

y_stands : (bytes : List ℕ) (place : ℕ) (p : Point) (rest : List ℕ) → StandAt bytes place p rest
    → take (length (signed_decimal p.y)) (drop (y_place place p) bytes) ≡ signed_decimal p.y
y_stands bytes place p rest stand =
    word_at bytes (stand.front ++ (signed_decimal p.x ++ (space ∷ []))) (signed_decimal p.y)
    (space ∷ (signed_decimal p.z ++ rest)) (y_place place p)
    (stand.is ∙ simp append_assoc)
    (omega (
      arith,
      stand.at,
      length-append stand.front (signed_decimal p.x ++ (space ∷ [])),
      length-append (signed_decimal p.x) (space ∷ []),
    ))

z_stands : (bytes : List ℕ) (place : ℕ) (p : Point) (rest : List ℕ) → StandAt bytes place p rest
    → take (length (signed_decimal p.z)) (drop (z_place place p) bytes) ≡ signed_decimal p.z
z_stands bytes place p rest stand =
    word_at bytes (stand.front ++ (signed_decimal p.x ++ (space ∷ (signed_decimal p.y ++ (space ∷ []))))) (signed_decimal p.z)
    rest (z_place place p)
    (stand.is ∙ simp append_assoc)
    (omega (
      arith,
      stand.at,
      length-append stand.front (signed_decimal p.x ++ (space ∷ (signed_decimal p.y ++ (space ∷ [])))),
      length-append (signed_decimal p.x) (space ∷ (signed_decimal p.y ++ (space ∷ []))),
      length-append (signed_decimal p.y) (space ∷ []),
    ))

scaled_word : (at : rows.Place) (bytes : List ℕ) (z : ℤ) → bytes ≡ signed_decimal z → unsigned_abs z ≤ DATA_LIMIT
    → told at (scaled_of bytes 1) ≡ done z
scaled_word at bytes z is small =
    ap (λ (b : List ℕ). told at (scaled_of b 1)) is ∙ ap (told at) (scaled_of-signed_decimal z small)

point_said : (bytes : List ℕ) (at : RowAt) (place : ℕ) (p : Point) (more : List Field) (rest : List ℕ)
    → StandAt bytes place p rest → IsWithin DATA_LIMIT p
    → point_in_columns (text_row bytes at (point_fields place p more)) first_axes ≡ Ok p
unfolding point_in_columns coordinate_of
point_said bytes at place p more rest stand within =
    rw (
      scaled_word _ _ p.x (x_stands bytes place p rest stand) within.x_within,
      scaled_word _ _ p.y (y_stands bytes place p rest stand) within.y_within,
      scaled_word _ _ p.z (z_stands bytes place p rest stand) within.z_within,
    ) refl

-- ---- numbers behind them

-- numbers that stand behind a place
record NumbersAt (bytes : List ℕ) (place : ℕ) (ns rest : List ℕ) : Type 0 where
  front : List ℕ
  at : place ≡ length front
  is : bytes ≡ front ++ behind ns rest

numbers_behind : (bytes : List ℕ) (place : ℕ) (p : Point) (ns rest : List ℕ)
    → StandAt bytes place p (end_byte ns ∷ behind ns rest) → NumbersAt bytes (end_place place p) ns rest
numbers_behind bytes place p ns rest stand = record {
  front = stand.front ++ (coordinates p ++ (end_byte ns ∷ []));
  at =
      omega (
        arith,
        stand.at,
        length-coordinates place p,
        length-append stand.front (coordinates p ++ (end_byte ns ∷ [])),
        length-append (coordinates p) (end_byte ns ∷ []),
      );
  is = stand.is ∙ simp append_assoc;
}

first_stands : (bytes : List ℕ) (place n : ℕ) (ns rest : List ℕ) → NumbersAt bytes place (n ∷ ns) rest
    → take (length (decimal n)) (drop place bytes) ≡ decimal n
first_stands bytes place n ns rest stand =
    word_at bytes stand.front (decimal n) (end_byte ns ∷ behind ns rest) place stand.is stand.at

others_behind : (bytes : List ℕ) (place n : ℕ) (ns rest : List ℕ) → NumbersAt bytes place (n ∷ ns) rest
    → NumbersAt bytes (next_place place n) ns rest
others_behind bytes place n ns rest stand = record {
  front = stand.front ++ (decimal n ++ (end_byte ns ∷ []));
  at =
      omega (
        arith,
        stand.at,
        length-append stand.front (decimal n ++ (end_byte ns ∷ [])),
        length-append (decimal n) (end_byte ns ∷ []),
      );
  is = stand.is ∙ simp append_assoc;
}

whole_word : (at : rows.Place) (bytes : List ℕ) (n : ℕ) → bytes ≡ decimal n → n ≤ sight_limit
    → told at (whole_of bytes) ≡ done (pos n)
whole_word at bytes n is small =
    ap (λ (b : List ℕ). told at (whole_of b)) is ∙ ap (told at) (whole_of-signed_decimal (pos n) (omega arith))

one_there : (count row n : ℕ) → n < count → one_of count row (pos n) ≡ done n
one_there count row n lt = ap (λ (b : Bool). cond b (done n) (Err (NoSuchScanner row (pos n)))) (lt-ltb n count lt)

-- the bytes of a scanner's number say it
named_read : (bytes : List ℕ) (wide : Bool) (scanners : ℕ) (at : RowAt) (fields : List Field) (number : List ℕ) (k : ℕ) → number ≡ decimal k
    → k < scanners → scanners ≤ scanner_limit
    → scanner_named (text_row bytes at fields) (printed_scanners wide scanners) number ≡ done k
unfolding scanner_named
named_read bytes wide scanners at fields number k is lt few =
    rw (whole_word _ number k is (omega (arith, lt, few))) (one_there scanners at.row k lt)

all_named : (bytes : List ℕ) (wide : Bool) (scanners : ℕ) (at : RowAt) (fields : List Field) (ks : List ℕ) → All (λ k. k < scanners) ks
    → scanners ≤ scanner_limit
    → each_of (scanner_named (text_row bytes at fields) (printed_scanners wide scanners)) (map (λ (k : ℕ). decimal k) ks) ≡ done ks
all_named bytes wide scanners at fields [] there few = refl
all_named bytes wide scanners at fields (k ∷ ks) there few =
    rw (
      named_read bytes wide scanners at fields (decimal k) k refl (All-head (λ k. k < scanners) k ks there) few,
      all_named bytes wide scanners at fields ks (All-tail (λ k. k < scanners) k ks there) few,
    ) refl

-- the items of a list that was printed
bytes_of : (place : ℕ) (ns : List ℕ) → map (λ (t : Token). t.bytes) (number_tokens place ns) ≡ map (λ (n : ℕ). decimal n) ns
bytes_of place [] = refl
bytes_of place (n ∷ ns) = ap (λ (bs : List (List ℕ)). decimal n ∷ bs) (bytes_of (next_place place n) ns)

tokens_there : (bytes : List ℕ) (place : ℕ) (ns rest : List ℕ) → Fit ns → NumbersAt bytes place ns rest
    → tokens_at bytes place ≡ number_tokens place ns ++ tokens_from (numbers_end place ns) rest
unfolding tokens_at
tokens_there bytes place ns rest fit stand =
    ap (λ (bs : List ℕ). tokens_from place (drop place bs)) stand.is
    ∙ ap (λ (n : ℕ). tokens_from place (drop n (stand.front ++ behind ns rest))) stand.at
    ∙ ap (tokens_from place) (drop-append_seam stand.front (behind ns rest))
    ∙ numbers_cut place ns rest fit

items_read : (bytes : List ℕ) (place : ℕ) (ns rest : List ℕ) → Fit ns → NumbersAt bytes place ns rest
    → items_in Ascii Int bytes (field_of_items (number_tokens place ns)) ≡ map (λ (n : ℕ). decimal n) ns
items_read bytes place [] rest fit stand = refl
items_read bytes place (n ∷ ns) rest fit stand =
    ap (λ (ts : List Token). map (λ (t : Token). t.bytes) (take (length (number_tokens place (n ∷ ns))) ts))
    (tokens_there bytes place (n ∷ ns) rest fit stand)
    ∙ ap (λ (ts : List Token). map (λ (t : Token). t.bytes) ts)
    (take-append_seam (number_tokens place (n ∷ ns)) (tokens_from (numbers_end place (n ∷ ns)) rest))
    ∙ bytes_of place (n ∷ ns)

-- ---- rows

few_there : (before row n : ℕ) → before + n ≤ sight_limit → few_sights before row n ≡ done n
few_there before row n le = ap (λ (b : Bool). cond b (Err (TooManySights row)) (done n)) (le-ltb sight_limit (before + n) le)

weight_fits : (w : ℕ) → 1 ≤ w → w ≤ weight_limit → ((w == 0) || ltb weight_limit w) ≡ false
weight_fits w least most = grind (arith, nat_tests)

weight_there : (row w : ℕ) → 1 ≤ w → w ≤ weight_limit → weighed row (pos w) ≡ done w
weight_there row w least most = ap (λ (b : Bool). cond b (Err (BadWeight row (pos w))) (done w)) (weight_fits w least most)

abbrev LineAt : Bool → List ℕ → ℕ → List ℕ → VertexRow → Type 0
LineAt wide bytes place rest row =
    StandAt bytes place row.point (end_byte (numbers_behind_point wide row) ∷ behind (numbers_behind_point wide row) rest)

abbrev IsRead : Bool → List ℕ → ℕ → ℕ → ℕ → ℕ → VertexRow → Type 0
IsRead wide bytes scanners before number place row =
    row_said (text_row bytes (row_at 0 number) (vertex_fields wide place row)) (printed_plan wide scanners) before
    ≡ done (one_vertex row)

once_read : (bytes : List ℕ) (scanners before number place : ℕ) (p : Point) (k : ℕ) (rest : List ℕ)
    → LineAt false bytes place rest (once_row p k) → IsWithin DATA_LIMIT p → k < scanners → scanners ≤ scanner_limit
    → before + 1 ≤ sight_limit
    → IsRead false bytes scanners before number place (once_row p k)
unfolding row_said vertex_said weight_said scanners_said
once_read bytes scanners before number place p k rest stand within lt few fit =
    let numbers = numbers_behind bytes place p (k ∷ []) rest stand in
    rw (
      point_said bytes (row_at 0 number) place p (seen_fields false place (once_row p k))
          (end_byte (k ∷ []) ∷ behind (k ∷ []) rest) stand within,
      few_there before number 1 fit,
      named_read bytes false scanners (row_at 0 number) (vertex_fields false place (once_row p k)) _ k
          (first_stands bytes (end_place place p) k [] rest numbers) lt few,
    ) refl

wide_read : (bytes : List ℕ) (scanners before number place : ℕ) (row : VertexRow) (rest : List ℕ)
    → LineAt true bytes place rest row → IsPrinted true scanners row → scanners ≤ scanner_limit
    → before + length row.seen_by ≤ sight_limit
    → IsRead true bytes scanners before number place row
unfolding row_said vertex_said weight_said number_in scanners_said
wide_read bytes scanners before number place row rest stand printed few fit =
    let p = row.point in
    let ks = row.seen_by in
    let numbers = numbers_behind bytes place p (row.weight ∷ length ks ∷ ks) rest stand in
    let counted = others_behind bytes (end_place place p) row.weight (length ks ∷ ks) rest numbers in
    let listed = others_behind bytes (next_place (end_place place p) row.weight) (length ks) ks rest counted in
    let items : items_in Ascii Int bytes (field_of_items (number_tokens (list_place place row) ks))
    ≡ map (λ (k : ℕ). decimal k) ks =
    items_read bytes (list_place place row) ks rest (scanners_fit scanners ks few printed.is.scanners_there) listed in
    rw (
      point_said bytes (row_at 0 number) place p (seen_fields true place row)
          (end_byte (numbers_behind_point true row) ∷ behind (numbers_behind_point true row) rest) stand printed.is.data_point,
      whole_word _ _ row.weight (first_stands bytes (end_place place p) row.weight (length ks ∷ ks) rest numbers)
          (omega (arith, printed.is.most_weight)),
      weight_there number row.weight printed.is.least_weight printed.is.most_weight,
      items,
      length-map ks (λ (k : ℕ). decimal k),
      few_there before number (length ks) fit,
      all_named bytes true scanners (row_at 0 number) (vertex_fields true place row) ks printed.is.scanners_there few,
    ) refl

vertex_read : (wide : Bool) (bytes : List ℕ) (scanners before number place : ℕ) (row : VertexRow) (rest : List ℕ)
    → LineAt wide bytes place rest row → IsPrinted wide scanners row → scanners ≤ scanner_limit
    → before + length row.seen_by ≤ sight_limit
    → IsRead wide bytes scanners before number place row
vertex_read true bytes scanners before number place row rest stand printed few fit =
    wide_read bytes scanners before number place row rest stand printed few fit
vertex_read false bytes scanners before number place row rest stand printed few fit =
    let same = once_is row printed.form in
    subst (IsRead false bytes scanners before number place) same
    (once_read bytes scanners before number place row.point (first_of row.seen_by) rest
    (subst (LineAt false bytes place rest) (sym same) stand) printed.is.data_point
    (first_below row.seen_by printed.form.1 printed.is.scanners_there) few (omega (arith, fit, printed.form.1)))
  where
    first_below : (ks : List ℕ) → length ks ≡ 1 → All (λ k. k < scanners) ks → first_of ks < scanners
    first_below [] one there = absurd (omega (arith, one))
    first_below (k ∷ ks) one there = All-head (λ k. k < scanners) k ks there

place_read : (wide : Bool) (bytes : List ℕ) (scanners before number place : ℕ) (p : Point) (rest : List ℕ)
    → StandAt bytes place p rest → IsWithin DATA_LIMIT p
    → row_said (text_row bytes (row_at 1 number) (point_fields place p [])) (printed_plan wide scanners) before
    ≡ done (one_scanner p)
unfolding row_said scanner_said
place_read wide bytes scanners before number place p rest stand within =
    rw (point_said bytes (row_at 1 number) place p [] rest stand within) refl

abbrev rows_are : List VertexRow → List Point → ScanRows
rows_are vertices scanners = record { vertices = vertices; scanners = scanners }

-- a line stands behind what is in front of it
line_stands : (bytes : List ℕ) (place : ℕ) (front : List ℕ) (p : Point) (ns more : List ℕ)
    → bytes ≡ front ++ (line p ns ++ more) → place ≡ length front → StandAt bytes place p (end_byte ns ∷ behind ns more)
line_stands bytes place front p ns more is at =
    record { front = front; at = at; is = is ∙ ap (λ (xs : List ℕ). front ++ xs) (line-append p ns more) }

vertices_found : (wide : Bool) (bytes : List ℕ) (scanners before place number : ℕ) (front : List ℕ) (rows : List VertexRow)
    (tail : List ℕ) (more : List Given) (end : Result ScanRows ScanRefusal) (others : ScanRows)
    → bytes ≡ front ++ (flat_map (vertex_line wide) rows ++ tail) → place ≡ length front → All (IsPrinted wide scanners) rows
    → scanners ≤ scanner_limit → before + sights_in rows ≤ sight_limit
    → ((n : ℕ) → found_in (text_body bytes) (printed_plan wide scanners) n more end ≡ done others)
    → found_in (text_body bytes) (printed_plan wide scanners) before (given_vertices wide place number rows ++ more) end
    ≡ done (rows_are (rows ++ others.vertices) others.scanners)
unfolding found_in
vertices_found wide bytes scanners before place number front [] tail more end others is at are few fit found = found before
vertices_found wide bytes scanners before place number front (row ∷ rows) tail more end others is at are few fit found =
    let printed = All-head (IsPrinted wide scanners) row rows are in
    let text = flat_map (vertex_line wide) rows ++ tail in
    let here : bytes ≡ front ++ (vertex_line wide row ++ text) =
    is ∙ ap (λ (xs : List ℕ). front ++ xs) (append_assoc (vertex_line wide row) (flat_map (vertex_line wide) rows) tail) in
    let sights = sum_by-cons (λ (r : VertexRow). length r.seen_by) row rows in
    let read =
    vertex_read wide bytes scanners before number place row text
    (line_stands bytes place front row.point (numbers_behind_point wide row) text here at) printed few (omega (arith, fit, sights)) in
    let later =
    vertices_found wide bytes scanners (before + sights_in (row ∷ [])) (vertex_end wide place row) (number + 1)
    (front ++ vertex_line wide row) rows tail more end others
    (here ∙ sym (append_assoc front (vertex_line wide row) text))
    (omega (arith, at, line_length place row.point (numbers_behind_point wide row), length-append front (vertex_line wide row)))
    (All-tail (IsPrinted wide scanners) row rows are) few
    (omega (arith, fit, sights, sum_by-cons (λ (r : VertexRow). length r.seen_by) row [])) found in
    rw (read, later) refl

scanners_found : (wide : Bool) (bytes : List ℕ) (scanners before place number : ℕ) (front : List ℕ) (points : List Point)
    → bytes ≡ front ++ flat_map scanner_line points → place ≡ length front → All (IsWithin DATA_LIMIT) points
    → found_in (text_body bytes) (printed_plan wide scanners) before (given_scanners place number points) (done no_rows)
    ≡ done (rows_are [] points)
unfolding found_in
scanners_found wide bytes scanners before place number front [] is at are = refl
scanners_found wide bytes scanners before place number front (p ∷ points) is at are =
    let text = flat_map scanner_line points in
    let read =
    place_read wide bytes scanners before number place p (end_byte [] ∷ behind [] text)
    (line_stands bytes place front p [] text is at) (All-head (IsWithin DATA_LIMIT) p points are) in
    let later =
    scanners_found wide bytes scanners (before + 0) (end_place place p) (number + 1) (front ++ scanner_line p) points
    (is ∙ sym (append_assoc front (scanner_line p) text))
    (omega (arith, at, line_length place p [], length-append front (scanner_line p)))
    (All-tail (IsWithin DATA_LIMIT) p points are) in
    rw (read, later) refl

lines_length : (wide : Bool) (place : ℕ) (rows : List VertexRow)
    → vertices_end wide place rows ≡ place + length (flat_map (vertex_line wide) rows)
lines_length wide place [] = omega arith
lines_length wide place (row ∷ rows) =
    grind (arith, line_length, length-append, lines_length wide (vertex_end wide place row) rows)

-- the rows of a printed body say the scan
pub printed_found : (wide : Bool) (vertices : List VertexRow) (scanners : List Point)
    → All (IsPrinted wide (length scanners)) vertices → All (IsWithin DATA_LIMIT) scanners → length scanners ≤ scanner_limit
    → sights_in vertices ≤ sight_limit
    → found_in (text_body (printed_body wide vertices scanners)) (printed_plan wide (length scanners)) 0
    (given_rows wide vertices scanners) (done no_rows) ≡ done (rows_are vertices scanners)
printed_found wide vertices scanners are places few fit =
    vertices_found wide (printed_body wide vertices scanners) (length scanners) 0 0 0 [] vertices
    (flat_map scanner_line scanners) (given_scanners (vertices_end wide 0 vertices) 0 scanners) (done no_rows)
    (rows_are [] scanners) refl refl are few (omega (arith, fit))
    (λ n. scanners_found wide (printed_body wide vertices scanners) (length scanners) n (vertices_end wide 0 vertices) 0
    (flat_map (vertex_line wide) vertices) scanners refl
    (lines_length wide 0 vertices ∙ zero_plus (length (flat_map (vertex_line wide) vertices))) places)
    ∙ ap (λ (rows : List VertexRow). done (rows_are rows scanners)) (append-nil vertices)
  where
    zero_plus : (n : ℕ) → 0 + n ≡ n
    zero_plus n = omega arith
