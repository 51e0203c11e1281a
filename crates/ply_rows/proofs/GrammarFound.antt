-- The reader and the grammar agree: what is read of a property is what the body begins with.
--
-- Reading a field is a chain of answers. It gave a field, so each gave a value: a list's count is whole and fits 32 bits,
-- and the tokens or bytes that it announces are there. The piece that the grammar asks for is then what was taken, and what
-- is left is what was dropped; the two are the body (take-append-drop). The cases are text or binary, one value or a list;
-- in a binary list the count and the items are taken one after the other and are one piece. property_found says it of either
-- kind of body, fields_found of the properties of a row.
use Rattle.std.proofs.Common.{◌≡◌, ℕ, ◌+◌, ◌*◌, ◌≤◌, ltb, ℤ, pos, negsuc, List, [], ◌∷◌, ◌++◌, length, take, drop, Result, Ok}
use Rattle.std.proofs.Common.{Err, refl, sym, ap, subst, ◌∙◌, arith}
use Rattle.std.proofs.lemmas.Bool.{ltb-false}
use Rattle.std.proofs.lemmas.List.{take-append-drop, length-take-le, length-append, append_assoc}
use Rattle.std.proofs.Math.Seq.{take-append_seam}
use Rattle.num_text.specs.WholeNumbers.{whole_of}
use Rattle.num_text.specs.declared.refusal.NumRefusal.{NumRefusal}
use Rattle.ply_head.specs.declared.header.Endian.{Endian}
use Rattle.ply_head.specs.declared.header.Shape.{Shape}
use Rattle.ply_head.specs.declared.header.Shape.TheVariants.{One, Many}
use Rattle.ply_head.specs.Answers.{◌>>=◌}
use Rattle.ply_head.proofs.Answers.{bind_ok, guarded, done, same_done}
use Rattle.ply_rows.specs.declared.place.Field.{Field}
use Rattle.ply_rows.specs.declared.place.Place.{Place}
use Rattle.ply_rows.specs.declared.refusal.RowRefusal.TheVariants.{Cut}
use Rattle.ply_rows.specs.Tokens.{Token}
use Rattle.ply_rows.specs.Texts.{count_in, count_or_refusal, items_of, field_of_items, text_field}
use Rattle.ply_rows.specs.Binaries.{size_of, number_of, bytes_of, list_field, binary_field}
use Rattle.ply_rows.specs.Rests.{Rest, text, raw, field_of, fields_of}
use Rattle.ply_head.specs.declared.header.Property.{Property}
use Rattle.ply_rows.specs.Grammar.{BeginsText, BeginsBytes, Begins, BeginsRow}

-- ---- in a text

counted : (at : Place) (z : ℤ) (n : ℕ) → count_in at z ≡ Ok n → (z ≡ pos n) × (n ≤ 4294967295)
counted at (negsuc m) n e = absurd cc
counted at (pos m) n e = grind (arith, ltb-false)

count_found : (at : Place) (r : Result ℤ NumRefusal) (n : ℕ) → count_or_refusal at r ≡ Ok n → (r ≡ done (pos n)) × (n ≤ 4294967295)
count_found at (Err e) n is = absurd cc
count_found at (Ok z) n is = let both = counted at z n is in (ap done both.0, both.1)

one_field : (t : Token) (field : Field) → record {
  place = t.place;
  size = length t.bytes;
  items = 1;
} ≡ field → field ≡ field_of_items (t ∷ [])
one_field t field e = sym e ∙ ap (λ (n : ℕ). record { place = t.place; size = n; items = 1 }) (omega arith)

text_found : (at : Place) (shape : Shape) (tokens : List Token) (field : Field) (behind : List Token)
    → text_field at shape tokens ≡ done (field, behind) → BeginsText shape field tokens (text behind)
unfolding text_field
text_found at (One scalar) [] field behind e = absurd cc
text_found at (Many count item) [] field behind e = absurd cc
text_found at (One scalar) (t ∷ tokens) field behind e =
    let same = same_done (record { place = t.place; size = length t.bytes; items = 1 }, tokens) (field, behind) e in
    record {
      group = t ∷ [];
      behind = tokens;
      is_group = refl;
      cut = refl;
      field_is = one_field t field (ap (λ (x : Field × List Token). x.0) same);
      left_is = ap (λ (x : Field × List Token). text x.1) (sym same);
    }
text_found at (Many count item) (t ∷ tokens) field behind e =
    let read = bind_ok (count_or_refusal at (whole_of t.bytes)) (λ n. items_of at n tokens) (field, behind) e in
    let count_is = count_found at (whole_of t.bytes) read.0 read.1 in
    let enough =
    guarded (ltb (length tokens) read.0) (Cut at) (done (field_of_items (take read.0 tokens), drop read.0 tokens))
    (field, behind) read.2 in
    let least : read.0 ≤ length tokens = ltb-false (length tokens) read.0 enough.0 in
    let items : length (take read.0 tokens) ≡ read.0 = length-take-le read.0 tokens least in
    let same = same_done (field_of_items (take read.0 tokens), drop read.0 tokens) (field, behind) enough.1 in
    record {
      group = t ∷ take read.0 tokens;
      behind = drop read.0 tokens;
      is_group = (count_is.0 ∙ ap (λ (n : ℕ). done (pos n)) (sym items), omega (arith, items, count_is.1));
      cut = ap (λ (ts : List Token). t ∷ ts) (sym (take-append-drop read.0 tokens));
      field_is = ap (λ (x : Field × List Token). x.0) (sym same);
      left_is = ap (λ (x : Field × List Token). text x.1) (sym same);
    }

-- ---- in a binary body

bytes_found : (at : Place) (n : ℕ) (bytes : List ℕ) (read : List ℕ × List ℕ) → bytes_of at n bytes ≡ done read
    → (n ≤ length bytes) × (read ≡ (take n bytes, drop n bytes))
bytes_found at n bytes read e = grind (arith, ltb-false)

abbrev ByteRead : Type 0
ByteRead = Field × (ℕ × List ℕ)

binary_found : (order : Endian) (at : Place) (shape : Shape) (place : ℕ) (bytes : List ℕ) (field : Field) (next : ℕ)
    (behind : List ℕ) → binary_field order at shape (place, bytes) ≡ done (field, (next, behind))
    → BeginsBytes order shape field place bytes (raw order next behind)
unfolding binary_field
binary_found order at (One scalar) place bytes field next behind e =
    let read =
    bind_ok (bytes_of at (size_of scalar) bytes)
    (λ value. done (record { place = place; size = size_of scalar; items = 1 }, (place + size_of scalar, value.1)))
    (field, (next, behind)) e in
    let value = bytes_found at (size_of scalar) bytes read.0 read.1 in
    let same =
    same_done (record { place = place; size = size_of scalar; items = 1 }, (place + size_of scalar, read.0.1))
    (field, (next, behind)) read.2 in
    let size : length (take (size_of scalar) bytes) ≡ size_of scalar = length-take-le (size_of scalar) bytes value.0 in
    let rest : drop (size_of scalar) bytes ≡ behind =
    ap (λ (x : List ℕ × List ℕ). x.1) (sym value.1) ∙ ap (λ (x : ByteRead). x.1.1) same in
    let place_is : place + length (take (size_of scalar) bytes) ≡ next =
    ap (λ (n : ℕ). place + n) size ∙ ap (λ (x : ByteRead). x.1.0) same in
    record {
      items = 1;
      piece = take (size_of scalar) bytes;
      behind = drop (size_of scalar) bytes;
      is_piece = size;
      cut = sym (take-append-drop (size_of scalar) bytes);
      field_is = ap (λ (x : ByteRead). x.0) (sym same);
      left_is =
          ap (λ (n : ℕ). raw order n behind) (sym place_is)
          ∙ ap (λ (xs : List ℕ). raw order (place + length (take (size_of scalar) bytes)) xs) (sym rest);
    }
binary_found order at (Many count item) place bytes field next behind e =
    let a = size_of count in
    let read =
    bind_ok (bytes_of at (size_of count) bytes)
    (λ first. count_in at (number_of order count first.0) >>= λ n. bytes_of at (n * size_of item) first.1
    >>= λ items. done
    (list_field (place + size_of count) (n * size_of item) n, (place + size_of count + n * size_of item, items.1)))
    (field, (next, behind)) e in
    let first = bytes_found at (size_of count) bytes read.0 read.1 in
    let counts =
    bind_ok (count_in at (number_of order count read.0.0))
    (λ n. bytes_of at (n * size_of item) read.0.1
    >>= λ items. done
    (list_field (place + size_of count) (n * size_of item) n, (place + size_of count + n * size_of item, items.1)))
    (field, (next, behind)) read.2 in
    let count_is = counted at (number_of order count read.0.0) counts.0 counts.1 in
    let third =
    bind_ok (bytes_of at (counts.0 * size_of item) read.0.1)
    (λ items. done (
      list_field (place + size_of count) (counts.0 * size_of item) counts.0,
      (place + size_of count + counts.0 * size_of item, items.1),
    )) (field, (next, behind)) counts.2 in
    let items = bytes_found at (counts.0 * size_of item) read.0.1 third.0 third.1 in
    let same =
    same_done (
      list_field (place + size_of count) (counts.0 * size_of item) counts.0,
      (place + size_of count + counts.0 * size_of item, third.0.1),
    ) (field, (next, behind)) third.2 in
    let front : read.0.0 ≡ take (size_of count) bytes = ap (λ (x : List ℕ × List ℕ). x.0) first.1 in
    let rest : read.0.1 ≡ drop (size_of count) bytes = ap (λ (x : List ℕ × List ℕ). x.1) first.1 in
    let front_size : length read.0.0 ≡ size_of count = ap length front ∙ length-take-le (size_of count) bytes first.0 in
    let items_size : length (take (counts.0 * size_of item) read.0.1) ≡ counts.0 * size_of item =
    length-take-le (counts.0 * size_of item) read.0.1 items.0 in
    let size : length (read.0.0 ++ take (counts.0 * size_of item) read.0.1) ≡ size_of count + counts.0 * size_of item =
    length-append read.0.0 (take (counts.0 * size_of item) read.0.1) ∙ omega (arith, front_size, items_size) in
    let left : third.0.1 ≡ drop (counts.0 * size_of item) read.0.1 = ap (λ (x : List ℕ × List ℕ). x.1) items.1 in
    record {
      items = counts.0;
      piece = read.0.0 ++ take (counts.0 * size_of item) read.0.1;
      behind = behind;
      is_piece = (
        size,
        ap (number_of order count)
            (ap (λ (n : ℕ). take n (read.0.0 ++ take (counts.0 * size_of item) read.0.1)) (sym front_size)
            ∙ take-append_seam read.0.0 (take (counts.0 * size_of item) read.0.1)) ∙ count_is.0,
        count_is.1,
      );
      cut = sym (append_assoc read.0.0 (take (counts.0 * size_of item) read.0.1) behind
          ∙ ap (λ (xs : List ℕ). read.0.0 ++ (take (counts.0 * size_of item) read.0.1 ++ xs))
          (ap (λ (x : ByteRead). x.1.1) (sym same) ∙ left)
          ∙ ap (λ (xs : List ℕ). read.0.0 ++ xs) (take-append-drop (counts.0 * size_of item) read.0.1)
          ∙ ap (λ (xs : List ℕ). xs ++ read.0.1) front ∙ ap (λ (xs : List ℕ). take (size_of count) bytes ++ xs) rest
          ∙ take-append-drop (size_of count) bytes);
      field_is = ap (λ (x : ByteRead). x.0) (sym same);
      left_is = ap (λ (n : ℕ). raw order n behind) (ap (λ (x : ByteRead). x.1.0) (sym same) ∙ omega (arith, size));
    }

-- ---- in either

pub property_found : (at : Place) (shape : Shape) (rest : Rest) (field : Field) (left : Rest)
    → field_of at shape rest ≡ done (field, left) → Begins shape field rest left
unfolding field_of
property_found at shape (text tokens) field left e = grind (arith, text_found)
property_found at shape (raw order place bytes) field left e = grind (arith, binary_found)

pub fields_found : (e r k : ℕ) (properties : List Property) (rest : Rest) (fields : List Field) (left : Rest)
    → fields_of e r k properties rest ≡ done (fields, left) → BeginsRow properties fields rest left
unfolding fields_of
fields_found e r k [] rest fields left is =
    subst (λ (x : List Field × Rest). BeginsRow [] x.0 rest x.1) (same_done ([], rest) (fields, left) is) refl
fields_found e r k (p ∷ properties) rest fields left is =
    let first =
    bind_ok (field_of (record { element = e; row = r; property = k }) p.shape rest)
    (λ first. fields_of e r (k + 1) properties first.1 >>= λ others. done (first.0 ∷ others.0, others.1)) (fields, left) is in
    let others =
    bind_ok (fields_of e r (k + 1) properties first.0.1) (λ others. done (first.0.0 ∷ others.0, others.1))
    (fields, left) first.2 in
    subst (λ (x : List Field × Rest). BeginsRow (p ∷ properties) x.0 rest x.1)
    (same_done (first.0.0 ∷ others.0.0, others.0.1) (fields, left) others.2) (
      first.0.1,
      (
        property_found (record { element = e; row = r; property = k }) p.shape rest first.0.0 first.0.1 first.1,
        fields_found e r (k + 1) properties first.0.1 others.0.0 others.0.1 others.1,
      ),
    )
